-- The writer's line is the only one without needless escapes that decodes to its frame, over the frame limit N.
-- (Lines with needless escapes may decode alike, so no more is true.) Assumes nothing.
use mathlib.Core.Path.{◌≡◌, refl, sym, ap, ◌∙◌}
use mathlib.Core.Bool.{Bool, true, false}
use mathlib.Core.List.{List, [], ◌∷◌, ◌++◌}
use mathlib.Core.Logic.{◌⊎◌, inl, inr}
use Prim.Native.Nat.{ℕ}
use native.Mathlib.Omega.{arith}
use borrow.Author.Tests.{eqb-true, eqb-false, ne_eqb}
use lib.Bits.{xor_lt}
use lib.Dec.{eqb, lit<}
use Rattle.octets.specs.Octets.{Octets, holds, last_of}
use Rattle.octets.proofs.Bounds.{octets-cond}
use Rattle.octets.proofs.Words.{holds-head, holds-tail}
use Rattle.refusal.specs.Answer.{gives}
use Rattle.fcs.specs.Check.{with_check}
use Rattle.frame.specs.Line.{flag, escape, plain_after, plain, special, escaped, on_line, inside}
use Rattle.frame.specs.Line.{toggle, Needed}
use Rattle.frame.specs.Decode.{decoded}
use Rattle.frame.specs.Write.{line_of}
use Rattle.frame.proofs.Checks.{check-exactly}
use Rattle.frame.proofs.Exact.{decode-frame}
use Rattle.frame.proofs.Lines.{unbroken-parts}
use Rattle.frame.proofs.Trip.{on-octet, inside-between}

-- decoded octets are octets
octets-plain : (s : List ℕ) (removed : Bool) → Octets s → Octets (plain_after removed s)
unfolding plain_after
octets-plain [] removed h = tt
octets-plain (x ∷ xs) true h = (xor_lt 8 x toggle h.0 (lit< tt), octets-plain xs false h.1)
octets-plain (x ∷ xs) false h =
    octets-cond (eqb x escape) (plain_after true xs) (x ∷ plain_after false xs) (octets-plain xs true h.1)
    (h.0, octets-plain xs false h.1)

back_none : on_line (plain []) ≡ []
unfolding plain_after on_line
back_none = refl

-- an octet that is not escaped, and one that is
module _ (ys : List ℕ) (back : on_line (plain ys) ≡ ys) where
  back-other : (x : ℕ) → (x ≡ flag → ⊥) → eqb x escape ≡ false → on_line (plain (x ∷ ys)) ≡ x ∷ ys
  unfolding plain_after on_line escaped special
  back-other x f e = rw (e, ne_eqb x flag f, e) (ap (λ (l : List ℕ). x ∷ l) back)

  back-escaped : (y : ℕ) → (y ≡ 0x5D) ⊎ (y ≡ 0x5E) → on_line (plain (escape ∷ y ∷ ys)) ≡ escape ∷ y ∷ ys
  unfolding plain_after on_line escaped special
  back-escaped y (inl e) = rw e (ap (λ (l : List ℕ). escape ∷ 0x5D ∷ l) back)
  back-escaped y (inr e) = rw e (ap (λ (l : List ℕ). escape ∷ 0x5E ∷ l) back)

-- a line that is not broken and has no needless escape is what its decoded octets are put on the line as
on_line-plain : (s : List ℕ) (l : ℕ) → holds flag s ≡ false → eqb (last_of l s) escape ≡ false → Needed s
    → on_line (plain s) ≡ s
unfolding last_of Needed
on_line-plain [] l f e n = back_none
on_line-plain (x ∷ []) l f e n = back-other [] back_none x (holds-head flag x [] f) e
on_line-plain (x ∷ y ∷ ys) l f e n =
    go (eqb x escape) refl (on_line-plain (y ∷ ys) x (holds-tail flag x (y ∷ ys) f) e n.1)
    (on_line-plain ys y (holds-tail flag y ys (holds-tail flag x (y ∷ ys) f)) e n.1.1)
  where
    go : (t : Bool) → eqb x escape ≡ t → on_line (plain (y ∷ ys)) ≡ y ∷ ys → on_line (plain ys) ≡ ys
        → on_line (plain (x ∷ y ∷ ys)) ≡ x ∷ y ∷ ys
    go true t next rest = rw (eqb-true x escape t) (back-escaped ys rest y (n.0 (eqb-true x escape t)))
    go false t next rest = back-other (y ∷ ys) next x (holds-head flag x (y ∷ ys) f) t

-- the writer's line has no needless escape
pub needed-on_line : (d : List ℕ) → Needed (on_line d)
unfolding on_line Needed
needed-on_line [] = tt
needed-on_line (x ∷ xs) =
    on-octet (λ (y : ℕ) (w : List ℕ). Needed (w ++ on_line xs))
    (λ _. inl refl, (λ e. absurd (eqb-false 0x5D escape refl e), needed-on_line xs))
    (λ _. inr refl, (λ e. absurd (eqb-false 0x5E escape refl e), needed-on_line xs))
    (λ y f e. (λ q. absurd (eqb-false y escape e q), needed-on_line xs)) x

-- what decodes to b, with no needless escape, is what lies between the flags of the line of b
pub unique : (N room : ℕ) (s b : List ℕ) → Octets s → Needed s → decoded N s room ≡ gives b → s ≡ inside (line_of b)
unfolding line_of
unique N room s b os n e =
    let g = (decode-frame N s room b).0 e in
    let parts = unbroken-parts s g.1.0 in
    let d : with_check b ≡ plain s =
    ap with_check (sym g.4)
    ∙ sym ((check-exactly (plain s) (octets-plain s false os) (omega (arith, g.1.1))).0 g.2) in
    sym (on_line-plain s 0 parts.0 parts.1 n) ∙ ap on_line (sym d) ∙ sym (inside-between (with_check b))
