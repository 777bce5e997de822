-- A word has no full stop and at most 14 letters, so of a row of them with full stops behind it the word can be read; and
-- `complete` is said of a scan that is complete and of no other. Assumes nothing.
--   name_of w == the word w with full stops behind it; letters_of x == what the name x has before its first
use Rattle.std.proofs.Common.{Option, Some, None, Result, Ok, Err}
use Rattle.refusal.specs.declared.Refusal.{Refusal}
use mathlib.Core.Path.{◌≡◌, refl, ap}
use mathlib.Core.Bool.{Bool, true, false, cond}
use mathlib.Core.List.{List, ◌∷◌}
use mathlib.Core.Logic.{◌↔◌}
use Prim.Native.Nat.{ℕ, ◌≤◌}
use native.Mathlib.Omega.{arith}
use borrow.Author.Tests.{leb-true}
use lib.Dec.{eqb, leb}
use lib.ListN.{length, get_or, replicate, take}
use Prim.Native.Char.{code}
use Rattle.octets.specs.Octets.{place_of, ◌at_start_of◌}
use Rattle.receiver.specs.declared.Received.{Received}
use Rattle.antenna.specs.declared.Motion.{Motion}
use Rattle.antenna.specs.declared.Motion.TheVariants.{Still, Moving, Owing, Stopped}
use Rattle.record.specs.declared.Link.{Link}
use Rattle.record.specs.declared.Link.TheVariants.{NoAddress, AddressAssigned, Connected}
use Rattle.record.specs.declared.Pending.{Pending}
use Rattle.record.specs.declared.Pending.TheVariants as pending
use Rattle.scan.specs.declared.State.{State}
use Rattle.scan.specs.declared.State.TheVariants as scan
use Rattle.script.specs.declared.Fault.{Fault}
use Rattle.script.specs.declared.Fault.TheVariants as fault
use Rattle.script.specs.Words.{spelled}
use Rattle.script.specs.Commands as command
use Rattle.device.specs.Judge.{Said}
use Rattle.drives.specs.declared.Response.{Response}
use Rattle.drives.specs.declared.Response.TheVariants as reply
use Rattle.terms.specs.declared.Term.{Term}
use Rattle.terms.specs.declared.Term.TheVariants as term
use Rattle.terms.specs.Terms.{fault_word, outcome_word, said_word, reply_word, given_word}
use Rattle.terms.specs.Terms.{handed_word, told_word, heard_word, end_word, link_word, pending_word, drive_word, word_of}

unfoldable pub name_of : List ℕ → List ℕ
name_of w = w at_start_of replicate 14 (code ".")

unfoldable pub letters_of : List ℕ → List ℕ
letters_of x = take (place_of (code ".") x) x

-- the letters of a word's name, and how many they are
abbrev Spoken : List ℕ → Type 0
Spoken w = (letters_of (name_of w) ≡ w) × (leb (length w) 14 ≡ true)

fault-said : (f : Fault) → Spoken (fault_word f)
unfolding name_of letters_of fault_word spelled place_of ◌at_start_of◌
fault-said fault.Long = (refl, refl)
fault-said fault.Command = (refl, refl)
fault-said fault.Words = (refl, refl)
fault-said fault.Hex = (refl, refl)
fault-said fault.Number = (refl, refl)
fault-said fault.Room = (refl, refl)
fault-said fault.Device = (refl, refl)

outcome-said : (x : Result (Unit {0}) Refusal) → Spoken (outcome_word x)
unfolding name_of letters_of outcome_word spelled place_of ◌at_start_of◌
outcome-said (Ok tt) = (refl, refl)
outcome-said (Err k) = (refl, refl)

said-said : (x : Said) → Spoken (said_word x)
unfolding name_of letters_of said_word spelled place_of ◌at_start_of◌
said-said (Ok None) = (refl, refl)
said-said (Ok (Some n)) = (refl, refl)
said-said (Err k) = (refl, refl)

reply-said : (x : Response) → Spoken (reply_word x)
unfolding name_of letters_of reply_word spelled place_of ◌at_start_of◌
reply-said reply.NoCommand = (refl, refl)
reply-said reply.NoDevice = (refl, refl)
reply-said reply.Full = (refl, refl)
reply-said (reply.Device k) = (refl, refl)
reply-said (reply.Outcome x) = outcome-said x
reply-said (reply.Said x) = said-said x
reply-said (reply.State place) = (refl, refl)
reply-said (reply.Limit n) = (refl, refl)

either-said : (b : Bool) {v w : List ℕ} → Spoken v → Spoken w → Spoken (cond b v w)
either-said true p q = p
either-said false p q = q

handed-said : (c : ℕ) (x : Result ℕ Refusal) → Spoken (handed_word c x)
unfolding name_of letters_of handed_word given_word spelled place_of ◌at_start_of◌
handed-said c (Ok n) =
    either-said (eqb c command.probe) (refl, refl)
    (either-said (eqb c command.decode) (refl, refl) (either-said (eqb c command.decode_n) (refl, refl) (refl, refl)))
handed-said c (Err k) = (refl, refl)

told-said : (q : Option (Result ℕ Refusal)) → Spoken (told_word q)
unfolding name_of letters_of told_word spelled place_of ◌at_start_of◌
told-said None = (refl, refl)
told-said (Some x) = handed-said command.decode x

heard-said : (x : Result Received Refusal) → Spoken (heard_word x)
unfolding name_of letters_of heard_word spelled place_of ◌at_start_of◌
heard-said (Ok c) = told-said c.handed
heard-said (Err k) = (refl, refl)

end-said : (s : State) → Spoken (end_word s)
unfolding name_of letters_of end_word spelled place_of ◌at_start_of◌
end-said (scan.Asking quiet doubt) = (refl, refl)
end-said scan.Complete = (refl, refl)
end-said scan.Doubtful = (refl, refl)
end-said scan.Limit = (refl, refl)
end-said scan.Full = (refl, refl)

link-said : (l : Link) → Spoken (link_word l)
unfolding name_of letters_of link_word spelled place_of ◌at_start_of◌
link-said NoAddress = (refl, refl)
link-said AddressAssigned = (refl, refl)
link-said (Connected s) = (refl, refl)

pending-said : (p : Pending) → Spoken (pending_word p)
unfolding name_of letters_of pending_word spelled place_of ◌at_start_of◌
pending-said pending.Nothing = (refl, refl)
pending-said pending.Answer = (refl, refl)
pending-said pending.Indication = (refl, refl)

drive-said : (m : Motion) → Spoken (drive_word m)
unfolding name_of letters_of drive_word spelled place_of ◌at_start_of◌
drive-said Still = (refl, refl)
drive-said Moving = (refl, refl)
drive-said (Owing asked) = (refl, refl)
drive-said (Stopped reached) = either-said reached (refl, refl) (refl, refl)

word-spoken : (t : Term) → Spoken (word_of t)
unfolding name_of letters_of word_of spelled place_of ◌at_start_of◌
word-spoken (term.Fault f) = fault-said f
word-spoken (term.Reply x) = reply-said x
word-spoken (term.Outcome x) = outcome-said x
word-spoken (term.Handed c x) = handed-said c x
word-spoken (term.Heard x) = heard-said x
word-spoken (term.End s) = end-said s
word-spoken (term.Link l) = link-said l
word-spoken (term.Pending p) = pending-said p
word-spoken (term.Drive m) = drive-said m
word-spoken term.Begun = (refl, refl)
word-spoken term.Listening = (refl, refl)
word-spoken term.Took = (refl, refl)

-- no word has more letters than a row of 14, for every term
pub word-few : (t : Term) → length (word_of t) ≤ 14
word-few t = leb-true (length (word_of t)) 14 (word-spoken t).1

-- what is written of the name of a word is the word, for every term
pub word-said : (t : Term) → letters_of (name_of (word_of t)) ≡ word_of t
word-said t = (word-spoken t).0

-- two words that differ in their first letter
first-differs : {x y : ℕ} {v w : List ℕ} → x ∷ v ≡ y ∷ w → (x ≡ y → ⊥) → ⊥
first-differs e d = d (ap (λ (l : List ℕ). get_or l 0 0) e)

-- "complete" is said exactly of a scan that is complete
complete-alone : (s : State) → end_word s ≡ spelled "complete" → s ≡ scan.Complete
unfolding end_word spelled
complete-alone (scan.Asking quiet doubt) e = absurd (first-differs e (λ q. omega arith))
complete-alone scan.Complete e = refl
complete-alone scan.Doubtful e = absurd (first-differs e (λ q. omega arith))
complete-alone scan.Limit e = absurd (first-differs e (λ q. omega arith))
complete-alone scan.Full e = absurd (first-differs e (λ q. omega arith))

pub complete-said : (s : State) → end_word s ≡ spelled "complete" ↔ s ≡ scan.Complete
unfolding end_word
complete-said s = (complete-alone s, λ e. ap end_word e)
