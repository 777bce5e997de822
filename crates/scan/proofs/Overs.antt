-- Which records take no probe and no answer. Assumes nothing.
use mathlib.Core.Path.{◌≡◌, refl, sym, ◌∙◌}
use mathlib.Core.Bool.{Bool, true, false, not, or-true}
use mathlib.Core.List.{[], ◌∷◌}
use mathlib.Core.Logic.{⊎_elim}
use Prim.Native.Nat.{◌≤◌, ◌<◌}
use native.Mathlib.Omega.{arith}
use borrow.Author.Tests.{lt-ltb, le-ltb, ltb-true, ltb-false, not-false}
use denote.Enum.Declared.{tag_of}
use lib.Dec.{ltb}
use types.Run.{OneOf}
use Rattle.identity.specs.Identity.{depth}
use Rattle.octets.proofs.Words.{or-none}
use Rattle.scan.specs.Record.{list_most}
use Rattle.scan.specs.Scan.{ended, over}
use Rattle.scan.specs.declared.Scan.{Scan}
use Rattle.scan.specs.declared.State.{State}
use Rattle.scan.specs.declared.State.TheVariants.{Asking, Complete, Doubtful, Limit, Full}
use Rattle.scan.specs.contracts.State.{the_type}

-- a state by the number of its variant
pub tag-ended : (t : State) → OneOf (1 ∷ 2 ∷ 3 ∷ 4 ∷ []) (tag_of the_type t) → ended t ≡ true
unfolding ended
tag-ended (Asking q w) k =
    absurd (⊎_elim (λ e. omega arith) (⊎_elim (λ e. omega arith) (⊎_elim (λ e. omega arith) (λ e. omega arith))) k)
tag-ended Complete k = refl
tag-ended Doubtful k = refl
tag-ended Limit k = refl
tag-ended Full k = refl

pub tag-asking : (t : State) → OneOf (0 ∷ []) (tag_of the_type t) → ended t ≡ false
unfolding ended
tag-asking (Asking q w) k = refl
tag-asking Complete k = absurd (omega arith)
tag-asking Doubtful k = absurd (omega arith)
tag-asking Limit k = absurd (omega arith)
tag-asking Full k = absurd (omega arith)

-- what a `match` on the state tells: a state that is not asking is an end
pub ended-not_asking : (t : State) → ((quiet doubt : Bool) → t ≡ Asking quiet doubt → ⊥) → ended t ≡ true
unfolding ended
ended-not_asking (Asking quiet doubt) k = absurd (k quiet doubt refl)
ended-not_asking Complete k = refl
ended-not_asking Doubtful k = refl
ended-not_asking Limit k = refl
ended-not_asking Full k = refl

module _ (s : Scan) where
  pub over-ended : ended s.state ≡ true → true ≡ over s
  unfolding over
  over-ended e = rw e

  pub over-count : s.limit ≤ s.count → true ≡ over s
  unfolding over
  over-count h = rw (le-ltb s.count s.limit h, or-true (ended s.state))

  pub over-list : list_most < s.listed → true ≡ over s
  unfolding over
  over-list h =
      rw (lt-ltb list_most s.listed h, or-true (not (ltb s.count s.limit)), or-true (ended s.state))

  pub over-bits : ended s.state ≡ false → s.count < s.limit → s.listed ≤ list_most → ltb depth s.bits ≡ over s
  unfolding over
  over-bits e h k = rw (e, lt-ltb s.count s.limit h, le-ltb list_most s.listed k)

-- a record that takes a probe and an answer
pub record Open (s : Scan) : Type 0 where
  pub asks : ended s.state ≡ false
  pub counts : s.count < s.limit
  pub lists : s.listed ≤ list_most
  pub begins : s.bits ≤ depth

pub open-parts : (s : Scan) → over s ≡ false → Open s
unfolding over
open-parts s e =
    let (a, r) = or-none (ended s.state) _ e in
    let (b, q) = or-none (not (ltb s.count s.limit)) _ r in
    let (c, d) = or-none (ltb list_most s.listed) (ltb depth s.bits) q in
    record {
      asks = a;
      counts = ltb-true s.count s.limit (not-false (ltb s.count s.limit) b);
      lists = ltb-false list_most s.listed c;
      begins = ltb-false depth s.bits d;
    }

pub open-over : (s : Scan) → Open s → over s ≡ false
open-over s o = sym (over-bits s o.asks o.counts o.lists) ∙ le-ltb depth s.bits o.begins
