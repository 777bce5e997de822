-- The open stretch of a salvage's record: its octets as they came, and what becomes of them at the flag behind it.
--   Opens p at c     == the open stretch of c has the octets p, and begins at the place at
--   verdict_for p a  == what becomes of the octets p of which a is said
--   begun_after f b  == the first flag is written, after the verdict f, where b said so before
--   next f c         == the record behind a flag that gave the open stretch of c the verdict f
-- Assumes nothing.
use mathlib.Core.Path.{◌≡◌, refl, sym, ap, ap₂, ◌∙◌}
use mathlib.Core.Bool.{Bool, true, false, cond, not, ◌&&◌}
use mathlib.Core.List.{List, [], ◌∷◌, ◌++◌}
use Prim.Native.Nat.{ℕ, suc, ◌+◌, ◌*◌, ◌^◌, ◌<◌, ◌≤◌, min}
use native.Mathlib.Nat.{mod-eq_of_lt}
use native.Mathlib.Omega.{arith}
use borrow.Author.Tests.{ltb-false, ne_eqb}
use lib.Dec.{eqb}
use lib.ListN.{length, take, length-append}
use lib.Seq.{length-sets, take_all}
use Rattle.octets.specs.Octets.{last_of}
use Rattle.octets.proofs.Words.{true-not-false}
use Rattle.refusal.specs.Answer.{Answer, gives, refuses, ◌when◌, Clear}
use Rattle.refusal.proofs.Exactly.{exactly-given}
use Rattle.limits.specs.Limits.{is_limit, limit_most, frame_most}
use Rattle.limits.proofs.Exactly.{is-limit-exactly}
use Rattle.frame.specs.Line.{flag, escape, broken, plain_after, plain}
use Rattle.frame.specs.Decode.{body, decode_rows, decoded}
use Rattle.frame.proofs.Lines.{unbroken-parts}
use Rattle.receiver.specs.Held.{Held, places, after_flag, stretch_says}
use Rattle.live.proofs.Steps.{after-dropped}
use Rattle.live.proofs.Answered.{says-room}
use Rattle.live.proofs.Decoder.{Holds, holds_opened, holds_after, says-decoded, take-sets, take_behind}
use Rattle.salvage.specs.Holding.{Holding, holding_of, receiver_in, raw_most, add64, with_octet, grown_by, said_verdict}
use Rattle.salvage.specs.Holding.{verdict_of, past_flag, behind_flag, behind_flag_in, closed_by, stretch_over, onward_from}
use Rattle.salvage.specs.Work.{end_verdict}
use Rattle.salvage.specs.declared.Verdict.{Verdict}
use Rattle.salvage.specs.declared.Verdict.TheVariants.{Still, Empty, Kept, Dropped}

-- a sum within 64 bits does not wrap
pub add64-small : (a b : ℕ) → a + b < 2 ^ 64 → add64 a b ≡ a + b
unfolding add64
add64-small a b h = mod-eq_of_lt h

-- octets of which the last is no escape: each decoded octet has at most two of them; the Bool is that of `plain_after`, and d
-- the octet before
plain-whole : (removed : Bool) (d : ℕ) (s : List ℕ) → eqb (last_of d s) escape ≡ false
    → (removed ≡ true → eqb d escape ≡ true) → length s + cond removed 1 0 ≤ 2 * length (plain_after removed s)
unfolding plain_after last_of
plain-whole true d [] h e = absurd (true-not-false (sym (e refl) ∙ h))
plain-whole true d (x ∷ xs) h e =
    omega (arith, plain-whole false x xs h (λ q. absurd (true-not-false (sym q))))
plain-whole false d [] h e = omega arith
plain-whole false d (x ∷ xs) h e =
    go (eqb x escape) refl (plain-whole true x xs h) (plain-whole false x xs h)
  where
    go : (t : Bool) → eqb x escape ≡ t
        → ((true ≡ true → eqb x escape ≡ true) → length xs + 1 ≤ 2 * length (plain_after true xs))
        → ((false ≡ true → eqb x escape ≡ true) → length xs + 0 ≤ 2 * length (plain_after false xs))
        → suc (length xs) + 0 ≤ 2 * length (cond t (plain_after true xs) (x ∷ plain_after false xs))
    go true t with without = omega (arith, with (λ q. t))
    go false t with without = omega (arith, without (λ q. absurd (true-not-false (sym q))))

-- what the decoder reads has no more raw octets than are held
pub read_held : (N : ℕ) → is_limit N ≡ true → (p : List ℕ) (room : ℕ) {b : List ℕ} → decoded N p room ≡ gives b
    → length p ≤ raw_most
unfolding decoded decode_rows Clear
read_held N l p room {b} e =
    let rows = 6 when not (is_limit N) ∷ decode_rows N (broken p) (plain p) room in
    let c = ((exactly-given rows (body (plain p)) b).0 e).0 in
    let limit = (is-limit-exactly N).0 l in
    let whole = unbroken-parts p c.1.0 in
    let few = ltb-false N (length (plain p)) c.1.1.1.0 in
    omega (arith, plain-whole false 0 p whole.1 (λ q. absurd (true-not-false (sym q))))

-- the open stretch of c has the octets p, and begins at the place at
pub record Opens (p : List ℕ) (at : ℕ) (c : Holding) : Type 0 where
  pub long : c.salvage.stretch.length ≡ length p
  pub offset : c.salvage.stretch.offset ≡ at
  pub held : c.salvage.stretch.held ≡ min raw_most (length p)
  pub octets : take c.salvage.stretch.held c.raw ≡ take raw_most p
  pub raw : length c.raw ≡ raw_most

-- one octet more, that is no flag
pub opens-more : (p : List ℕ) (at : ℕ) (c : Holding) (x : ℕ) → length p + 1 < 2 ^ 64 → Opens p at c
    → Opens (p ++ x ∷ []) at (with_octet c x)
unfolding with_octet grown_by
opens-more p at c x small was =
    let n : length (p ++ x ∷ []) ≡ length p + 1 = length-append p (x ∷ []) in
    record {
      long = ap (λ (k : ℕ). add64 k 1) was.long ∙ add64-small (length p) 1 small ∙ sym n;
      offset = was.offset;
      held = omega (arith, was.held);
      octets =
          take-sets raw_most (x ∷ []) c.raw c.salvage.stretch.held was.raw (omega (arith, was.held))
          ∙ ap (λ (l : List ℕ). take raw_most (l ++ x ∷ [])) was.octets
          ∙ take_behind raw_most p (x ∷ []);
      raw = length-sets c.raw c.salvage.stretch.held (x ∷ []) ∙ was.raw;
    }

-- no more octets than are held: they are held as they stood
pub all_held : (p : List ℕ) (at : ℕ) (c : Holding) → Opens p at c → length p ≤ raw_most
    → take c.salvage.stretch.held c.raw ≡ p
all_held p at c was h = was.octets ∙ take_all raw_most p h

-- what becomes of the octets p of which a is said: no octets are neither kept nor left out
unfoldable pub verdict_for : List ℕ → Answer (List ℕ) → Verdict
verdict_for [] a = Empty
verdict_for (x ∷ p) a = said_verdict a

-- a flag leaves no stretch open
pub verdict-never-still : (p : List ℕ) (a : Answer (List ℕ)) → verdict_for p a ≡ Still → ⊥
unfolding verdict_for said_verdict
verdict-never-still [] a e = let z : ◌≡◌ {A = ℕ} 0 1 = cc in omega arith
verdict-never-still (x ∷ p) (gives b) e = let z : ◌≡◌ {A = ℕ} 0 1 = cc in omega arith
verdict-never-still (x ∷ p) (refuses k) e = let z : ◌≡◌ {A = ℕ} 0 1 = cc in omega arith

-- the first flag is written with the first stretch that is kept
unfoldable pub begun_after : Verdict → Bool → Bool
begun_after Still begun = begun
begun_after Empty begun = begun
begun_after Kept begun = true
begun_after (Dropped k) begun = begun

-- the record behind a flag
unfoldable pub next : Verdict → Holding → Holding
next f c =
    holding_of (stretch_over f (begun_after f c.salvage.begun) (past_flag c).salvage) c.store c.raw

-- it is the definition's
pub closed-next : (f : Verdict) (c : Holding) → (f ≡ Still → ⊥) → closed_by f c ≡ next f c
unfolding closed_by behind_flag_in behind_flag next begun_after past_flag
closed-next Still c q = absurd (q refl)
closed-next Empty c q = refl
closed-next Kept c q = refl
closed-next (Dropped k) c q = refl

-- behind a flag nothing is open
pub opens-next : (p : List ℕ) (at : ℕ) (c : Holding) (f : Verdict) → at + length p + 1 < 2 ^ 64
    → Opens p at c → Opens [] (at + length p + 1) (next f c)
unfolding next past_flag stretch_over onward_from
opens-next p at c f small was =
    record {
      long = refl;
      offset =
          ap₂ (λ (i n : ℕ). add64 (add64 i n) 1) was.offset was.long
          ∙ ap (λ (i : ℕ). add64 i 1) (add64-small at (length p) (omega arith))
          ∙ add64-small (at + length p) 1 small;
      held = refl;
      octets = refl;
      raw = was.raw;
    }

-- and the receiver behind a flag
pub holds-next : (c : Holding) (f : Verdict) → length c.store ≡ places → Holds [] (receiver_in (next f c))
unfolding next past_flag stretch_over after_flag
holds-next c f e = holds_opened (receiver_in c) e

-- an octet that is no flag is the receiver's
pub holds-octet : (p : List ℕ) (c : Holding) (x : ℕ) → Holds p (receiver_in c) → eqb x flag ≡ false
    → Holds (p ++ x ∷ []) (receiver_in (with_octet c x))
unfolding with_octet
holds-octet p c x is e = holds_after p (receiver_in c) x is e

-- before the first flag the receiver takes nothing
pub octet-before : (c : Holding) (x : ℕ) → eqb x flag ≡ false → c.salvage.receiver.seen ≡ false
    → ((with_octet c x).salvage.receiver.seen ≡ false) × (length (with_octet c x).store ≡ length c.store)
unfolding with_octet
octet-before c x e none =
    let same = after-dropped (receiver_in c) x e none in
    (ap (λ (h : Held). h.marks.seen) same ∙ none, ap (λ (h : Held). length h.store) same)

-- what is open at the end is left out, with the number 0
pub end-verdict : (p : List ℕ) (at : ℕ) (c : Holding) → Opens p at c → end_verdict c.salvage ≡ verdict_for p (refuses 0)
unfolding end_verdict verdict_for said_verdict
end-verdict [] at c was = rw was.long
end-verdict (x ∷ p) at c was = rw was.long (rw (ne_eqb (length (x ∷ p)) 0 (λ e. omega (arith, e))))

-- what becomes of the octets before the first flag
pub verdict-before : (N : ℕ) (p : List ℕ) (at : ℕ) (c : Holding) → c.salvage.receiver.seen ≡ false → Opens p at c
    → verdict_of N c ≡ verdict_for p (refuses 0)
unfolding verdict_of end_verdict
verdict-before N p at c none was = rw none (end-verdict p at c was)

-- and of octets behind a flag: what the decoder says of them
pub verdict-behind : (N : ℕ) → is_limit N ≡ true → (p : List ℕ) (at : ℕ) (c : Holding) → Holds p (receiver_in c)
    → Opens p at c → verdict_of N c ≡ verdict_for p (decoded N p (frame_most N))
unfolding verdict_of verdict_for
verdict-behind N l [] at c is was = rw (is.seen, is.any, was.long)
verdict-behind N l (x ∷ p) at c is was =
    let limit = (is-limit-exactly N).0 l in
    ap₂ (λ (b d : Bool). cond (b && d) says none) is.seen is.any
    ∙ ap said_verdict
    (says-room N (frame_most limit_most) (receiver_in c) (omega arith)
    ∙ says-decoded N l (x ∷ p) (receiver_in c) (frame_most N) is)
  where
    says : Verdict
    says = said_verdict (stretch_says N (frame_most limit_most) (receiver_in c))

    none : Verdict
    none = cond (eqb c.salvage.stretch.length 0) Empty (Dropped 0)
