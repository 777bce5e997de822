-- `read_line` meets its promise: one fault after the other. Assumes nothing.
use Rattle.std.proofs.Common.{◌≡◌, sym, ◌∙◌}
use Rattle.std.proofs.lemmas.Result.{err_from_is_err_and}
use Rattle.script.specs.Words.{spelled}
use Rattle.script.specs.Script.{kinds_of}
use Rattle.script.specs.declared.Fault.TheVariants.{Command}
use Rattle.script.proofs.LineLaws.{line-command, line-words, line-fault, line-reads}
use Rattle.script.proofs.read_line.Goals as goal

pub returns-in_err-command : goal.returns-in_err-command
returns-in_err-command c =
    let p = err_from_is_err_and c.from_residual.result c.from_residual.ensures.1 in
    let silent = sym c.is_unanswered.ensures ∙ c.if-is_unanswered.false in
    let told = c.in_err-command.ensures in
    let fault = rw told.ok_part at told.value in
    let command : c.in_err-command.field-0.0 ≡ Command = cc in
    rw (p.1, p.2, command)
    (line-command c.args.line.now c.args.devices silent c.if-line-gt-LONGEST.false (sym c.command_of.ensures ∙ told.ok_part))

pub returns-then-spaces-kinds : goal.returns-then-spaces-kinds
unfolding kinds_of spelled
returns-then-spaces-kinds c =
    let silent = sym c.is_unanswered.ensures ∙ c.if-is_unanswered.false in
    let command = sym c.command_of.ensures ∙ c.in_ok-command.ensures.ok_part in
    line-words c.args.line.now c.args.devices silent c.if-line-gt-LONGEST.false _ _ command c.word-kinds.ensures
    (rw c.spaces.ensures at c.if-spaces-kinds.true)

pub returns-in_err-asked : goal.returns-in_err-asked
unfolding kinds_of spelled
returns-in_err-asked c =
    let p = err_from_is_err_and c.from_residual-in_err-asked.result c.from_residual-in_err-asked.ensures.1 in
    let silent = sym c.is_unanswered.ensures ∙ c.if-is_unanswered.false in
    let command = sym c.command_of.ensures ∙ c.in_ok-command.ensures.ok_part in
    rw (p.1, p.2)
    (line-fault c.args.line.now c.args.devices silent c.if-line-gt-LONGEST.false _ _ command c.word-kinds.ensures
    (rw c.spaces.ensures at c.if-spaces-kinds.false) (rw c.wordless.ensures at c.in_err-asked.ensures))

pub returns : goal.returns
unfolding kinds_of spelled
returns c =
    let silent = sym c.is_unanswered.ensures ∙ c.if-is_unanswered.false in
    let command = sym c.command_of.ensures ∙ c.in_ok-command.ensures.ok_part in
    line-reads c.args.line.now c.args.devices silent c.if-line-gt-LONGEST.false _ _ command c.word-kinds.ensures
    (rw c.spaces.ensures at c.if-spaces-kinds.false) (rw c.wordless.ensures at c.in_ok-asked.ensures)
