-- The round trip, over the frame limit N: what lies between the flags of a written line decodes to what was put in.
-- Assumes nothing.
use Rattle.std.proofs.Common.{Result, Ok}
use Rattle.refusal.specs.declared.Refusal.{Refusal}
use mathlib.Core.Path.{◌≡◌, refl, sym, ap, ◌∙◌}
use mathlib.Core.Bool.{Bool, true, false}
use mathlib.Core.List.{List, [], ◌∷◌, ◌++◌}
use Prim.Native.Nat.{ℕ, ◌+◌, ◌-◌, ◌≤◌}
use native.Mathlib.Omega.{arith}
use borrow.Author.Tests.{eqb-true}
use lib.Dec.{eqb}
use lib.ListN.{length, take}
use lib.Seq.{take_at}
use Rattle.octets.specs.Octets.{Octets, holds, last_of}
use Rattle.refusal.specs.Answer.{gives, handed_out, Hands}
use Rattle.refusal.proofs.Answers.{in-room, octets-told, hands-is}
use Rattle.refusal.proofs.Exactly.{handed-out-told}
use Rattle.fcs.specs.Check.{with_check}
use Rattle.limits.specs.Limits.{is_limit, payload_most}
use Rattle.limits.proofs.Exactly.{is-limit-exactly}
use Rattle.frame.specs.Line.{flag, escape, broken, plain_after, plain, special, escaped, on_line}
use Rattle.frame.specs.Line.{between, inside}
use Rattle.frame.specs.Decode.{decoded}
use Rattle.frame.specs.Write.{line_of, written}
use Rattle.frame.proofs.Assembled.{length-with_check}
use Rattle.frame.proofs.Checks.{body-with_check, right-with_check}
use Rattle.frame.proofs.Escapes.{length-between}
use Rattle.frame.proofs.Judge.{when_whole, right, payload-fits}
use Rattle.frame.proofs.Lines.{unbroken}

-- what holds of both escapes, and of every other octet as it is, holds of each octet on the line
pub on-octet : (P : ℕ → List ℕ → Type 0) → P escape (escape ∷ 0x5D ∷ []) → P flag (escape ∷ 0x5E ∷ [])
    → ((x : ℕ) → eqb x flag ≡ false → eqb x escape ≡ false → P x (x ∷ [])) → (x : ℕ) → P x (escaped x)
unfolding escaped special
on-octet P p q r x = go (eqb x flag) (eqb x escape) refl refl
  where
    go : (s t : Bool) → eqb x flag ≡ s → eqb x escape ≡ t → P x (escaped x)
    go true t e f = rw (eqb-true x flag e) q
    go false true e f = rw (eqb-true x escape f) p
    go false false e f = rw (e, f) (r x e f)

-- no flag on the line
pub no_flag : (d : List ℕ) → holds flag (on_line d) ≡ false
unfolding on_line holds
no_flag [] = refl
no_flag (x ∷ xs) =
    on-octet (λ (y : ℕ) (w : List ℕ). holds flag (w ++ on_line xs) ≡ false) (no_flag xs) (no_flag xs)
    (λ y f e. rw f (no_flag xs)) x

-- no escape at its end
ends-well : (d : List ℕ) (l : ℕ) → eqb l escape ≡ false → eqb (last_of l (on_line d)) escape ≡ false
unfolding on_line last_of
ends-well [] l e = e
ends-well (x ∷ xs) l e =
    on-octet (λ (y : ℕ) (w : List ℕ). eqb (last_of l (w ++ on_line xs)) escape ≡ false)
    (ends-well xs 0x5D refl) (ends-well xs 0x5E refl) (λ y f g. ends-well xs y g) x

pub whole-line : (d : List ℕ) → broken (on_line d) ≡ false
whole-line d = unbroken (on_line d) (no_flag d) (ends-well d 0 refl)

pub plain-on_line : (d : List ℕ) → plain (on_line d) ≡ d
unfolding plain_after on_line
plain-on_line [] = refl
plain-on_line (x ∷ xs) =
    on-octet (λ (y : ℕ) (w : List ℕ). plain (w ++ on_line xs) ≡ y ∷ xs)
    (ap (λ (l : List ℕ). escape ∷ l) (plain-on_line xs)) (ap (λ (l : List ℕ). flag ∷ l) (plain-on_line xs))
    (λ y f e. rw e (ap (λ (l : List ℕ). y ∷ l) (plain-on_line xs))) x

pub inside-between : (d : List ℕ) → inside (between d) ≡ on_line d
unfolding inside between
inside-between d = take_at (on_line d) (flag ∷ []) (length (between d) - 2) (omega (arith, length-between d))

module _ (b : List ℕ) (os : Octets b) (N : ℕ) (l : is_limit N ≡ true) (room : ℕ) (two : 2 ≤ length b)
    (fits : length b + 2 ≤ N) where
  -- what lies between the flags of the line of b is answered as b is handed out
  pub trip : decoded N (inside (line_of b)) room ≡ handed_out b room
  unfolding line_of
  trip =
      ap (λ (s : List ℕ). decoded N s room) (inside-between (with_check b))
      ∙ when_whole N l (on_line (with_check b)) room (whole-line (with_check b))
      ∙ rw (plain-on_line (with_check b))
      (right N (with_check b) room (omega (arith, length-with_check b)) (omega (arith, length-with_check b))
      (right-with_check b os))
      ∙ ap (λ (d : List ℕ). handed_out d room) (body-with_check b)

-- The same of the promises, for every frame limit N, 78 to 260, and every reader's limit M from N on: any answer and output
-- that `write` may give, and then any that `decode` may give to what lies between the flags of what was written.
pub round_trip : (N M : ℕ) → is_limit N ≡ true → is_limit M ≡ true → N ≤ M → (a c : ℕ) (p : List ℕ) (o o' u u' : List ℕ)
    {n : ℕ} {r : Result ℕ Refusal} → Octets (a ∷ c ∷ p) → length p ≤ payload_most N → length p + 2 ≤ length u
    → Hands (written N a c p (length o)) o (Ok n) o'
    → Hands (decoded M (inside (take n o')) (length u)) u r u'
    → Hands (gives (a ∷ c ∷ p)) u r u'
round_trip N M l m up a c p o o' u u' {n} os h k w d =
    let b : List ℕ = a ∷ c ∷ p in
    let out : handed_out (line_of b) (length o) ≡ gives (take n o') =
    sym (payload-fits N l a c p (length o) h) ∙ (octets-told (written N a c p (length o)) w).0 in
    let line : inside (take n o') ≡ inside (line_of b) = ap inside (sym (handed-out-told (line_of b) (length o) out)) in
    let few = (is-limit-exactly N).0 l in
    hands-is
    (ap (λ (s : List ℕ). decoded M s (length u)) line
    ∙ trip b os M m (length u) (omega arith) (omega (arith, up))
    ∙ in-room b (length u) (omega arith))
    d
