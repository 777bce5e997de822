-- The promise of this crate allows one answer, one row after it and one content of the lent output. Assumes nothing.
use Rattle.std.proofs.Common.{Result}
use Rattle.refusal.specs.declared.Refusal.{Refusal}
use mathlib.Core.Path.{◌≡◌, refl, sym, ap, ap₂, ◌∙◌}
use mathlib.Core.List.{List}
use Prim.Native.Nat.{ℕ}
use Rattle.octets.proofs.Only.{only}
use Rattle.refusal.specs.Answer.{outcome_of}
use Rattle.refusal.proofs.Only.{outcome-apart}
use Rattle.device.specs.Judge.{Said, said_of}
use Rattle.device.proofs.Only.{said-apart}
use Rattle.bus.specs.declared.Row.{Row}
use Rattle.drives.specs.declared.Response as the-response
use Rattle.drives.specs.declared.Response.TheVariants as code
use Rattle.drives.specs.Drives.{ScriptAnswer, no_command, no_device, full, device, outcome, answer, state, limit}
use Rattle.drives.specs.Drives.{After, reply_of, Obeys, Came}
use Rattle.octets.proofs.Only.{AsksNothing, SettlesAll}
use Rattle.drives.proofs.obey.Reads as obey-reads

-- the code's answers that stand for an answer
Means : ScriptAnswer → the-response.Response → Type 0
Means no_command x = x ≡ code.NoCommand
Means no_device x = x ≡ code.NoDevice
Means full x = x ≡ code.Full
Means (device k) x = x ≡ code.Device k
Means (outcome a) x = (u : Result (Unit {0}) Refusal) × (x ≡ code.Outcome u) × (outcome_of u ≡ a)
Means (answer a) x = (s : Said) × (x ≡ code.Said s) × (said_of s ≡ a)
Means (state place) x = x ≡ code.State place
Means (limit n) x = x ≡ code.Limit n

means-it : (x : the-response.Response) → Means (reply_of x) x
unfolding Means reply_of
means-it code.NoCommand = refl
means-it code.NoDevice = refl
means-it code.Full = refl
means-it (code.Device k) = refl
means-it (code.Outcome u) = (u, refl, refl)
means-it (code.Said s) = (s, refl, refl)
means-it (code.State place) = refl
means-it (code.Limit n) = refl

means-one : (y : ScriptAnswer) {x z : the-response.Response} → Means y x → Means y z → x ≡ z
unfolding Means
means-one no_command e f = e ∙ sym f
means-one no_device e f = e ∙ sym f
means-one full e f = e ∙ sym f
means-one (device k) e f = e ∙ sym f
means-one (outcome a) (u, e, p) (w, f, q) = e ∙ ap code.Outcome (outcome-apart u w (p ∙ sym q)) ∙ sym f
means-one (answer a) (s, e, p) (t, f, q) = e ∙ ap code.Said (said-apart s t (p ∙ sym q)) ∙ sym f
means-one (state place) e f = e ∙ sym f
means-one (limit n) e f = e ∙ sym f

-- no two of the code's answers stand for one
pub reply-apart : (x z : the-response.Response) → reply_of x ≡ reply_of z → x ≡ z
reply-apart x z e = means-one (reply_of z) (rw e at (means-it x)) (means-it z)

-- every promise by `Obeys` allows one row, one answer and one output
obeys-only : {right : Came} {x y : Row} {r s : the-response.Response} {p q : List ℕ}
    → Obeys right x r p → Obeys right y s q → (r ≡ s) × ((x ≡ y) × (p ≡ q))
obeys-only {r = r} {s = s} a b =
    let both = only a.after b.after in (
      reply-apart r s (ap (λ (x : After). x.reply) both),
      (ap (λ (x : After). x.row) both, only a.lent b.lent),
    )

pub obey-only : SettlesAll {O = Row × List ℕ} obey-reads.Learnt (λ κs s. (s.0.now, s.1.1.1.1.0.now))
obey-only κs a r q s t x y =
    let e = obeys-only x y in (e.0, ap₂ (λ (w : Row) (o : List ℕ). (w, o)) e.1.0 e.1.1)

pub obey-asks : AsksNothing obey-reads.Asked
obey-asks κs a = tt
