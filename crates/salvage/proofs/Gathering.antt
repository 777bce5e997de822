-- The octets up to the next flag, at once and one by one: what is carried behind them, and what becomes of the open stretch.
--   AllIs c p d == d is c with the octets p more, but for the receiver's record
-- Assumes nothing.
use Rattle.std.proofs.Common.{Option, Some, None, Result, Ok, Err}
use Rattle.refusal.specs.declared.Refusal.{Refusal}
use Rattle.std.proofs.Common.{◌≡◌, ℕ, suc, ◌+◌, ◌%◌, ◌^◌, ◌<◌, ◌≤◌, min, Bool, true, false, cond, eqb, ltb, List, [], ◌∷◌, ◌++◌, length, take, set, sym, refl, ap, ◌∙◌, ap₂, append-nil, suc-add, zero-add, arith, length-set, length-take, take_all, ltb-false, ltb-true, ne_eqb, eqb-true}
use lib.Seq.{sets, length-sets}
use Rattle.octets.specs.Octets.{holds, place_of, part_of}
use Rattle.octets.proofs.Stores.{sets-past}
use Rattle.octets.proofs.Words.{true-not-false, holds-head, holds-tail, place-held}
use Rattle.refusal.specs.Answer.{Answer, gives, refuses, answer_of, counted}
use Rattle.refusal.proofs.Answers.{gives_same, gives-not-refuses, refuses-same}
use Rattle.limits.specs.Limits.{is_limit, limit_most, frame_most}
use Rattle.limits.proofs.Exactly.{is-limit-exactly}
use Rattle.frame.specs.Line.{flag}
use Rattle.receiver.specs.Held.{Held, held_of, after_flag, after_octet, stretched, closes, stretch_says}
use Rattle.receiver.specs.Call.{nothing, handed, Took, further, takes, received, handed_of, heard_of, code_took, told_counted, told_by, took_by, held_by}
use Rattle.receiver.specs.Call.{Receives}
use Rattle.receiver.specs.Pieces.{further_by}
use Rattle.receiver.proofs.After.{after-flag, closes-other}
use Rattle.receiver.proofs.Only.{nothing-not-handed}
use Rattle.receiver.proofs.Refusals.{in_order}
use Rattle.receiver.specs.declared.Receiver.{Receiver}
use Rattle.receiver.specs.declared.Received.{Received}
use Rattle.salvage.specs.Holding.{Holding, holding_of, receiver_in, Workable, raw_most, add64, grown_by, with_octet}
use Rattle.salvage.specs.Holding.{said_verdict, verdict_of, past_flag}
use Rattle.salvage.specs.Pieces.{with_all, up_to, gathered_in, verdict_in, Touched, Gathers, handed_verdict, passed_verdict, heard_verdict}
use Rattle.salvage.specs.declared.OpenStretch.{OpenStretch}
use Rattle.salvage.specs.declared.Totals.{Totals}
use Rattle.salvage.specs.declared.Verdict.{Verdict}
use Rattle.salvage.specs.declared.Verdict.TheVariants.{Still, Dropped}

-- the octets before the first flag
pub up-flagless : (s : List ℕ) → holds flag (up_to s) ≡ false
unfolding holds place_of
up-flagless [] = refl
up-flagless (x ∷ s) = go (eqb x flag) refl (up-flagless s)
  where
    go : (t : Bool) → eqb x flag ≡ t → holds flag (up_to s) ≡ false
        → holds flag (take (cond t 0 (suc (place_of flag s))) (x ∷ s)) ≡ false
    go true e less = refl
    go false e less = rw e less

pub place-most : (s : List ℕ) → place_of flag s ≤ length s
unfolding place_of
place-most [] = omega arith
place-most (x ∷ s) = go (eqb x flag) (place-most s)
  where
    go : (t : Bool) → place_of flag s ≤ length s → cond t 0 (suc (place_of flag s)) ≤ length (x ∷ s)
    go true h = omega arith
    go false h = omega arith

-- all of them, where there is none
pub up-all : (s : List ℕ) → holds flag s ≡ false → (place_of flag s ≡ length s) × (up_to s ≡ s)
up-all s f =
    let n : length s ≤ place_of flag s = ltb-false (place_of flag s) (length s) (sym (place-held flag s) ∙ f) in
    (omega (arith, place-most s), take_all (place_of flag s) s n)

-- with the flag
pub up-flag : (s : List ℕ) → holds flag s ≡ true → take (place_of flag s + 1) s ≡ up_to s ++ flag ∷ []
unfolding holds place_of
up-flag [] f = absurd (true-not-false (sym f))
up-flag (x ∷ s) f = go (eqb x flag) refl f (up-flag s)
  where
    go : (t : Bool) → eqb x flag ≡ t → cond t true (holds flag s) ≡ true
        → (holds flag s ≡ true → take (place_of flag s + 1) s ≡ up_to s ++ flag ∷ [])
        → take (cond t 0 (suc (place_of flag s)) + 1) (x ∷ s) ≡ take (cond t 0 (suc (place_of flag s))) (x ∷ s) ++ flag ∷ []
    go true e g less = ap (λ (y : ℕ). y ∷ []) (eqb-true x flag e)
    go false e g less = rw suc-add (ap (λ (l : List ℕ). x ∷ l) (less g))

-- a stretch that grows by one octet, and by more
pub grown-more : (n : ℕ) (t : OpenStretch) → grown_by n (grown_by 1 t) ≡ grown_by (suc n) t
unfolding grown_by add64
grown-more n t =
    let l : ((t.length + 1) % 2 ^ 64 + n) % 2 ^ 64 ≡ (t.length + suc n) % 2 ^ 64 = omega arith in
    let h : min raw_most (min raw_most (t.held + 1) + n) ≡ min raw_most (t.held + suc n) = omega arith in
    rw (l, h)

pub grown-none : (t : OpenStretch) → t.length < 2 ^ 64 → t.held ≤ raw_most → grown_by 0 t ≡ t
unfolding grown_by add64
grown-none t small few =
    let l : (t.length + 0) % 2 ^ 64 ≡ t.length = omega arith in
    let h : min raw_most (t.held + 0) ≡ t.held = omega arith in
    rw (l, h)

-- raw octets, as many as there are places for
raw-more : (x : ℕ) (xs w : List ℕ) (k : ℕ) → length w ≡ raw_most → k ≤ raw_most
    → sets (sets w k (x ∷ [])) (min raw_most (k + 1)) xs ≡ sets w k (x ∷ xs)
raw-more x xs w k e h = go (ltb k raw_most) refl
  where
    go : (t : Bool) → ltb k raw_most ≡ t → sets (set w k x) (min raw_most (k + 1)) xs ≡ sets (set w k x) (suc k) xs
    go true t =
        let n : min raw_most (k + 1) ≡ suc k = omega (arith, ltb-true k raw_most t) in rw n
    go false t =
        let full : raw_most ≤ k = ltb-false k raw_most t in
        let n : length (set w k x) ≡ raw_most = length-set w k x ∙ e in
        sets-past xs (set w k x) (min raw_most (k + 1)) (omega arith)
        ∙ sym (sets-past xs (set w k x) (suc k) (omega arith))

grown-raw : (x : ℕ) (xs w : List ℕ) (t : OpenStretch) → length w ≡ raw_most → t.held ≤ raw_most
    → sets (sets w t.held (x ∷ [])) (grown_by 1 t).held xs ≡ sets w t.held (x ∷ xs)
unfolding grown_by
grown-raw x xs w t e h = raw-more x xs w t.held e h

pub record AllIs (c : Holding) (p : List ℕ) (d : Holding) : Type 0 where
  pub stretch : d.salvage.stretch ≡ grown_by (length p) c.salvage.stretch
  pub begun : d.salvage.begun ≡ c.salvage.begun
  pub totals : d.salvage.totals ≡ c.salvage.totals
  pub raw : d.raw ≡ sets c.raw c.salvage.stretch.held p

-- one octet keeps what the law below asks for
octet-keeps : (c : Holding) (x : ℕ) → length c.raw ≡ raw_most
    → ((with_octet c x).salvage.stretch.length < 2 ^ 64) × ((with_octet c x).salvage.stretch.held ≤ raw_most)
    × (length (with_octet c x).raw ≡ raw_most)
unfolding with_octet grown_by add64
octet-keeps c x places =
    (omega arith, omega arith, length-sets c.raw c.salvage.stretch.held (x ∷ []) ∙ places)

octet-is : (c : Holding) (x : ℕ) → AllIs c (x ∷ []) (with_octet c x)
unfolding with_octet
octet-is c x = record { stretch = refl; begun = refl; totals = refl; raw = refl }

pub all-is : (p : List ℕ) (c : Holding) → c.salvage.stretch.length < 2 ^ 64 → c.salvage.stretch.held ≤ raw_most
    → length c.raw ≡ raw_most → AllIs c p (with_all c p)
unfolding with_all
all-is [] c small few places =
    record { stretch = sym (grown-none c.salvage.stretch small few); begun = refl; totals = refl; raw = refl }
all-is (x ∷ xs) c small few places =
    let t : OpenStretch = c.salvage.stretch in
    let one = octet-is c x in
    let keeps = octet-keeps c x places in
    let less = all-is xs (with_octet c x) keeps.0 keeps.1 keeps.2 in
    record {
      stretch = less.stretch ∙ ap (grown_by (length xs)) one.stretch ∙ grown-more (length xs) t;
      begun = less.begun ∙ one.begun;
      totals = less.totals ∙ one.totals;
      raw = less.raw
          ∙ ap₂ (λ (w : List ℕ) (u : OpenStretch). sets w u.held xs) one.raw one.stretch
          ∙ grown-raw x xs c.raw t places few;
    }

handed-same : {A : Type 0} {a b : Answer A} → handed a ≡ handed b → a ≡ b
handed-same e = cc

pub receiver-octet : (c : Holding) (x : ℕ) → receiver_in (with_octet c x) ≡ after_octet (receiver_in c) x
unfolding with_octet
receiver-octet c x = refl

-- what the receiver makes of octets without a flag
module _ (N room : ℕ) where
  further-on : (k : ℕ) (t : Took) → further (further_by k t) ≡ further_by (suc k) t
  unfolding further further_by
  further-on k t = rw suc-add

  pub takes-piece : (p rest : List ℕ) (c : Holding) → holds flag p ≡ false
      → takes N room (receiver_in c) (p ++ rest) ≡ further_by (length p) (takes N room (receiver_in (with_all c p)) rest)
  unfolding takes with_all further_by
  takes-piece [] rest c f = rw zero-add
  takes-piece (x ∷ p) rest c f =
      let other = ne_eqb x flag (holds-head flag x p f) in
      let less = takes-piece p rest (with_octet c x) (holds-tail flag x p f) in
      rw (closes-other (receiver_in c) x other, ← receiver-octet c x, less)
      (further-on (length p) (takes N room (receiver_in (with_all (with_octet c x) p)) rest))

  -- and of a flag behind them
  abbrev pub flag_took : Held → Bool → Took
  flag_took h t = record { held = after_flag h; count = 1; told = cond t (handed (stretch_says N room h)) nothing }

  pub takes-flag : (h : Held) → takes N room h (flag ∷ []) ≡ flag_took h (stretched h.marks)
  unfolding takes further closes
  takes-flag h = rw (after-flag h flag refl) (by-told (stretched h.marks))
    where
      by-told : (t : Bool) → cond t (flag_took h true) (flag_took h false) ≡ flag_took h t
      by-told true = refl
      by-told false = refl

-- what becomes of a stretch, by what the receiver told
module _ (closed : Bool) (n : ℕ) where
  pub heard-quiet : (q : Option (Result ℕ Refusal)) → handed_of q ≡ nothing → heard_verdict q closed n ≡ cond closed (passed_verdict n) Still
  unfolding handed_of
  heard-quiet None e = refl
  heard-quiet (Some q) e = absurd (nothing-not-handed (sym e))

  said-handed : (q : Result ℕ Refusal) (a : Answer (List ℕ)) → answer_of q ≡ counted a → handed_verdict q ≡ said_verdict a
  unfolding answer_of counted said_verdict
  said-handed (Ok k) (gives b) e = refl
  said-handed (Ok k) (refuses j) e = absurd (gives-not-refuses e)
  said-handed (Err r) (gives b) e = absurd (gives-not-refuses (sym e))
  said-handed (Err r) (refuses j) e = ap Dropped (refuses-same e)

  pub heard-said : (q : Option (Result ℕ Refusal)) (a : Answer (List ℕ)) → handed_of q ≡ handed (counted a)
      → heard_verdict q closed n ≡ said_verdict a
  unfolding handed_of
  heard-said None a e = absurd (nothing-not-handed e)
  heard-said (Some q) a e = said-handed q a (handed-same e)

  -- of what is told at a flag
  pub heard-flag : (q : Option (Result ℕ Refusal)) (t : Bool) (a : Answer (List ℕ))
      → handed_of q ≡ told_counted (cond t (handed a) nothing)
      → heard_verdict q closed n ≡ cond t (said_verdict a) (cond closed (passed_verdict n) Still)
  unfolding told_counted
  heard-flag q true a e = heard-said q a e
  heard-flag q false a e = heard-quiet q e

-- the record, of its parts
holding-is : {r r' : Receiver} {t t' : OpenStretch} {b b' : Bool} {u u' : Totals} {m m' w w' : List ℕ} → r ≡ r' → t ≡ t'
    → b ≡ b' → u ≡ u' → m ≡ m' → w ≡ w'
    → holding_of (record { receiver = r; stretch = t; begun = b; totals = u }) m w
    ≡ holding_of (record { receiver = r'; stretch = t'; begun = b'; totals = u' }) m' w'
holding-is er et eb eu em ew = rw (er, et, eb, eu, em, ew)

-- what the code makes of what the receiver said
abbrev pub code-says : Receiver → OpenStretch → ℕ → Verdict → Touched
code-says r t k f = record { receiver = r; stretch = t; taken = k; verdict = f }

-- what a call of the receiver tells, and what it leaves, where it is not refused
pub record Heeds (t : Took) (q : Option (Result ℕ Refusal)) (g : Held) : Type 0 where
  pub answer : handed_of q ≡ told_counted t.told
  pub held : g ≡ t.held

module _ (N : ℕ) (c : Holding) (q : List ℕ) (limit : is_limit N ≡ true) (fits : Workable c) (o : List ℕ)
    (room : length o ≡ frame_most limit_most) where
  not-refused : received N (receiver_in c) q (length o) ≡ gives (takes N (frame_most limit_most) (receiver_in c) q)
  not-refused =
      let most = (is-limit-exactly N).0 limit in
      rw room (in_order N (receiver_in c) q (frame_most limit_most) limit fits.0.0 fits.0.1 (omega arith))

  pub heeds-some : {k : Refusal} {o' : List ℕ} {g : Held}
      → Receives (received N (receiver_in c) q (length o)) (receiver_in c) o (Err k) g o' → ⊥
  unfolding heard_of told_by
  heeds-some took = gives-not-refuses (sym (rw not-refused at took.answer))

  module _ {r : Received} {o' : List ℕ} {g : Held}
      (took : Receives (received N (receiver_in c) q (length o)) (receiver_in c) o (Ok r) g o') where
    pub heeds : Heeds (takes N (frame_most limit_most) (receiver_in c) q) r.handed g
    unfolding heard_of told_by held_by
    heeds = record { answer = gives_same (rw not-refused at took.answer); held = rw not-refused at took.held }

    pub heeds-count : r.taken ≡ (takes N (frame_most limit_most) (receiver_in c) q).count
    unfolding code_took took_by
    heeds-count = rw not-refused at took.count

-- the octets up to the next flag, and the flag
module _ (N : ℕ) (c : Holding) (s : List ℕ) (limit : is_limit N ≡ true) (fits : Workable c)
    (small : c.salvage.stretch.length < 2 ^ 64) where
  up-length : length (up_to s) ≡ place_of flag s
  up-length = omega (arith, length-take (place_of flag s) s, place-most s)

  all : AllIs c (up_to s) (with_all c (up_to s))
  all = all-is (up_to s) c small fits.2 fits.1

  flag-inside : holds flag s ≡ true → place_of flag s < length s
  flag-inside f = ltb-true (place_of flag s) (length s) (sym (place-held flag s) ∙ f)

  -- no flag: all octets
  still-is : holds flag s ≡ false → takes N (frame_most limit_most) (receiver_in c) (take (place_of flag s + 1) s)
      ≡ further_by (length (up_to s)) (record { held = receiver_in (with_all c (up_to s)); count = 0; told = nothing })
  unfolding takes
  still-is f =
      let whole : take (place_of flag s + 1) s ≡ up_to s ++ [] =
      take_all (place_of flag s + 1) s (omega (arith, (up-all s f).0)) ∙ sym (append-nil (up_to s) ∙ (up-all s f).1) in
      ap (takes N (frame_most limit_most) (receiver_in c)) whole
      ∙ takes-piece N (frame_most limit_most) (up_to s) [] c (up-flagless s)

  -- a flag: the octets before it, and it
  flagged-is : holds flag s ≡ true → takes N (frame_most limit_most) (receiver_in c) (take (place_of flag s + 1) s)
      ≡ further_by (length (up_to s))
      (flag_took N (frame_most limit_most) (receiver_in (with_all c (up_to s))) (stretched (with_all c (up_to s)).salvage.receiver))
  flagged-is f =
      ap (takes N (frame_most limit_most) (receiver_in c)) (up-flag s f)
      ∙ takes-piece N (frame_most limit_most) (up_to s) (flag ∷ []) c (up-flagless s)
      ∙ ap (further_by (length (up_to s))) (takes-flag N (frame_most limit_most) (receiver_in (with_all c (up_to s))))

  heeds-is : {t u : Took} {q : Option (Result ℕ Refusal)} {g : Held} → t ≡ further_by (length (up_to s)) u → Heeds t q g → Heeds u q g
  unfolding further_by
  heeds-is e h =
      record {
        answer = h.answer ∙ ap (λ (t : Took). told_counted t.told) e;
        held = h.held ∙ ap (λ (t : Took). t.held) e;
      }

  -- how many octets are taken
  pub taken-count : (takes N (frame_most limit_most) (receiver_in c) (take (place_of flag s + 1) s)).count
      ≡ min (place_of flag s + 1) (length s)
  unfolding further_by
  taken-count = go (holds flag s) refl
    where
      go : (b : Bool) → holds flag s ≡ b → (takes N (frame_most limit_most) (receiver_in c) (take (place_of flag s + 1) s)).count
          ≡ min (place_of flag s + 1) (length s)
      go true f = ap (λ (t : Took). t.count) (flagged-is f) ∙ omega (arith, up-length, flag-inside f)
      go false f = ap (λ (t : Took). t.count) (still-is f) ∙ omega (arith, up-length, (up-all s f).0)

  -- what the definitions say, by whether there is a flag
  verdict-flag : holds flag s ≡ true → verdict_in N c s
      ≡ cond (stretched (with_all c (up_to s)).salvage.receiver)
      (said_verdict (stretch_says N (frame_most limit_most) (receiver_in (with_all c (up_to s)))))
      (passed_verdict (with_all c (up_to s)).salvage.stretch.length)
  unfolding verdict_in verdict_of
  verdict-flag e = rw e

  verdict-still : holds flag s ≡ false → verdict_in N c s ≡ Still
  unfolding verdict_in
  verdict-still e = rw e

  behind-flag : holds flag s ≡ true → gathered_in c s ≡ past_flag (with_all c (up_to s))
  unfolding gathered_in
  behind-flag e = rw e

  behind-still : holds flag s ≡ false → gathered_in c s ≡ with_all c (up_to s)
  unfolding gathered_in
  behind-still e = rw e

  -- the answer of the code, of its parts
  pub gathered : {m' w' p : List ℕ} {r : Receiver} {q : Option (Result ℕ Refusal)} {t : OpenStretch} {k : ℕ} {f : Verdict}
      → Heeds (takes N (frame_most limit_most) (receiver_in c) (take (place_of flag s + 1) s)) q (held_of r m')
      → k ≡ min (place_of flag s + 1) (length s) → t ≡ grown_by (place_of flag s) c.salvage.stretch
      → w' ≡ sets c.raw c.salvage.stretch.held p → p ≡ part_of 0 (place_of flag s) s
      → f ≡ heard_verdict q (holds flag s) t.length
      → Gathers N c s (code-says r t k f) m' w'
  unfolding told_counted after_flag past_flag
  gathered {m'} {w'} {p} {r} {q} {t} {k} {f} call count grown stored held verdict = go (holds flag s) refl
    where
      d : Holding
      d = with_all c (up_to s)

      stretch-is : t ≡ d.salvage.stretch
      stretch-is = grown ∙ ap (λ (n : ℕ). grown_by n c.salvage.stretch) (sym up-length) ∙ sym all.stretch

      raw-is : w' ≡ d.raw
      raw-is = stored ∙ ap (sets c.raw c.salvage.stretch.held) held ∙ sym all.raw

      parts : {g : Held} → held_of r m' ≡ g
          → holding_of
          (record { receiver = r; stretch = t; begun = c.salvage.begun; totals = c.salvage.totals }) m' w'
          ≡ holding_of (record { receiver = g.marks; stretch = d.salvage.stretch; begun = d.salvage.begun; totals = d.salvage.totals })
          g.store d.raw
      parts e =
          holding-is (ap (λ (h : Held). h.marks) e) stretch-is (sym all.begun) (sym all.totals) (ap (λ (h : Held). h.store) e)
          raw-is

      go : (b : Bool) → holds flag s ≡ b → Gathers N c s (code-says r t k f) m' w'
      go true e =
          let h = heeds-is (flagged-is e) call in
          record {
            count = count;
            verdict = verdict ∙ ap₂ (λ (b : Bool) (n : ℕ). heard_verdict q b n) e (ap (λ (u : OpenStretch). u.length) stretch-is)
                ∙ heard-flag true d.salvage.stretch.length q (stretched d.salvage.receiver) _ h.answer
                ∙ sym (verdict-flag e);
            holding = parts h.held ∙ sym (behind-flag e);
          }
      go false e =
          let h = heeds-is (still-is e) call in
          record {
            count = count;
            verdict = verdict ∙ ap₂ (λ (b : Bool) (n : ℕ). heard_verdict q b n) e (ap (λ (u : OpenStretch). u.length) stretch-is)
                ∙ heard-quiet false d.salvage.stretch.length q h.answer
                ∙ sym (verdict-still e);
            holding = parts h.held ∙ sym (behind-still e);
          }
