-- How many octets the receiver is lent: it takes those up to and with the next flag, or all. Assumes nothing.
use Rattle.std.proofs.Common.{Ok, ◌≡◌, ℕ, suc, ◌+◌, ◌-◌, ◌^◌, ◌<◌, ◌≤◌, min, Bool, true, false, cond, ◌&&◌, eqb, ltb, List, [], ◌∷◌, ◌++◌, length, get_or, take, drop, sym, refl, ap, ◌∙◌, ap₂, ⊎_elim, append_assoc, arith, take-append-drop, length-take, take_all, ltb-true, le-ltb, lt-ltb, eq-eqb, ne_eqb, eqb-true}
use borrow.Author.Tests.{not-true}
use lib.Seq.{sets}
use Rattle.octets.specs.Octets.{holds, place_of, part_of}
use Rattle.octets.proofs.Takes.{take_within}
use Rattle.octets.proofs.Words.{true-not-false, and_parts, or_parts, holds-head, holds-tail, holds-nowhere, place-held}
use Rattle.frame.specs.Line.{flag}
use Rattle.receiver.specs.Held.{Held, taken_in, raw, stretched, closes}
use Rattle.receiver.specs.Call.{Took, takes, received, Receives}
use Rattle.limits.specs.Limits.{is_limit, limit_most, frame_most}
use Rattle.receiver.specs.Pieces.{further_by}
use Rattle.receiver.proofs.After.{after-other}
use Rattle.receiver.specs.declared.Received.{Received}
use Rattle.salvage.specs.Holding.{Holding, receiver_in, Workable, grown_by, with_octet}
use Rattle.salvage.specs.declared.OpenStretch.{OpenStretch}
use Rattle.salvage.specs.declared.Verdict.{Verdict}
use Rattle.salvage.specs.Pieces.{with_all, up_to, stops_at, reach_of, before_flag, heard_verdict, Gathers}
use Rattle.salvage.proofs.Gathering.{up-flagless, up-all, up-flag, place-most, takes-piece, receiver-octet}
use Rattle.salvage.proofs.Gathering.{code-says, heeds, heeds-count, taken-count, gathered}

-- an octet that is no flag opens no new stretch
module _ (c : Holding) (x : ℕ) (other : eqb x flag ≡ false) where
  octet-seen : c.salvage.receiver.seen ≡ true → (with_octet c x).salvage.receiver.seen ≡ true
  unfolding raw taken_in
  octet-seen e =
      ap (λ (h : Held). h.marks.seen) (receiver-octet c x ∙ after-other (receiver_in c) x other) ∙ rw e

  octet-any : c.salvage.receiver.seen ≡ true → (with_octet c x).salvage.receiver.any ≡ true
  unfolding raw taken_in
  octet-any e =
      ap (λ (h : Held). h.marks.any) (receiver-octet c x ∙ after-other (receiver_in c) x other) ∙ rw e

all-stretched : (p : List ℕ) (c : Holding) → holds flag p ≡ false → c.salvage.receiver.seen ≡ true
    → c.salvage.receiver.any ≡ true → stretched (with_all c p).salvage.receiver ≡ true
unfolding with_all
all-stretched [] c f e a = ap₂ (λ (b d : Bool). b && d) e a
all-stretched (x ∷ p) c f e a =
    let other = ne_eqb x flag (holds-head flag x p f) in
    all-stretched p (with_octet c x) (holds-tail flag x p f) (octet-seen c x other e) (octet-any c x other e)

-- one octet at least
some-stretched : (p : List ℕ) (c : Holding) → holds flag p ≡ false → 0 < length p → c.salvage.receiver.seen ≡ true
    → stretched (with_all c p).salvage.receiver ≡ true
unfolding with_all
some-stretched [] c f some e = absurd (omega arith)
some-stretched (x ∷ p) c f some e =
    let other = ne_eqb x flag (holds-head flag x p f) in
    all-stretched p (with_octet c x) (holds-tail flag x p f) (octet-seen c x other e) (octet-any c x other e)

-- no flag stands first
first-other : (s : List ℕ) → holds flag s ≡ true → eqb (get_or s 0 0) flag ≡ false → 0 < length (up_to s)
unfolding holds place_of
first-other [] f e = absurd (true-not-false (sym f))
first-other (x ∷ s) f e = rw e (omega arith)

-- a flag stands at its place
place-flag : (s : List ℕ) → holds flag s ≡ true → get_or s (place_of flag s) 0 ≡ flag
unfolding holds place_of
place-flag [] f = absurd (true-not-false (sym f))
place-flag (x ∷ s) f = go (eqb x flag) refl f (place-flag s)
  where
    go : (t : Bool) → eqb x flag ≡ t → cond t true (holds flag s) ≡ true
        → (holds flag s ≡ true → get_or s (place_of flag s) 0 ≡ flag) → get_or (x ∷ s) (cond t 0 (suc (place_of flag s))) 0 ≡ flag
    go true e g less = eqb-true x flag e
    go false e g less = less g

-- the stretch that the next flag closes has octets, where the receiver stops there
stops-stretched : (c : Holding) (s : List ℕ) → stops_at c.salvage.receiver s ≡ true → holds flag s ≡ true
    → stretched (with_all c (up_to s)).salvage.receiver ≡ true
unfolding stops_at
stops-stretched c s e f =
    let parts = and_parts c.salvage.receiver.seen _ e in
    ⊎_elim (λ a. all-stretched (up_to s) c (up-flagless s) parts.0 a)
    (λ n. some-stretched (up_to s) c (up-flagless s) (first-other s f (not-true _ n)) parts.0)
    (or_parts c.salvage.receiver.any _ parts.1)

module _ (N room : ℕ) where
  -- behind such a flag nothing more is taken
  takes-closing : (h : Held) (xs : List ℕ) → stretched h.marks ≡ true → takes N room h (flag ∷ xs) ≡ takes N room h (flag ∷ [])
  unfolding takes closes
  takes-closing h xs e = rw e

  -- so all octets may be lent
  takes-stopped : (c : Holding) (s : List ℕ) → stops_at c.salvage.receiver s ≡ true → holds flag s ≡ true
      → takes N room (receiver_in c) s ≡ takes N room (receiver_in c) (take (place_of flag s + 1) s)
  takes-stopped c s e f =
      let n : ℕ = place_of flag s in
      let whole : s ≡ up_to s ++ (flag ∷ drop (n + 1) s) =
      sym (take-append-drop (n + 1) s) ∙ ap (λ (l : List ℕ). l ++ drop (n + 1) s) (up-flag s f)
      ∙ append_assoc (up_to s) (flag ∷ []) (drop (n + 1) s) in
      ap (takes N room (receiver_in c)) whole
      ∙ takes-piece N room (up_to s) (flag ∷ drop (n + 1) s) c (up-flagless s)
      ∙ ap (further_by (length (up_to s)))
      (takes-closing (receiver_in (with_all c (up_to s))) (drop (n + 1) s) (stops-stretched c s e f))
      ∙ sym
      (ap (takes N room (receiver_in c)) (up-flag s f)
      ∙ takes-piece N room (up_to s) (flag ∷ []) c (up-flagless s))

  -- what is lent comes to the same as the octets up to and with the next flag
  reach-takes : (c : Holding) (s : List ℕ) → takes N room (receiver_in c) (take (reach_of c.salvage.receiver s) s)
      ≡ takes N room (receiver_in c) (take (place_of flag s + 1) s)
  unfolding reach_of
  reach-takes c s = by-stop (stops_at c.salvage.receiver s) refl
    where
      by_flag : (b : Bool) → holds flag s ≡ b → stops_at c.salvage.receiver s ≡ true
          → takes N room (receiver_in c) s ≡ takes N room (receiver_in c) (take (place_of flag s + 1) s)
      by_flag true f e = takes-stopped c s e f
      by_flag false f e =
          ap (takes N room (receiver_in c)) (sym (take_all (place_of flag s + 1) s (omega (arith, (up-all s f).0))))

      by-stop : (b : Bool) → stops_at c.salvage.receiver s ≡ b
          → takes N room (receiver_in c) (take (cond b (length s) (min (place_of flag s + 1) (length s))) s)
          ≡ takes N room (receiver_in c) (take (place_of flag s + 1) s)
      by-stop true e = ap (takes N room (receiver_in c)) (take_all (length s) s (omega arith)) ∙ by_flag (holds flag s) refl e
      by-stop false e = ap (takes N room (receiver_in c)) (take_within (place_of flag s + 1) (length s) s (omega arith))

-- of the octets that were taken those before the flag
module _ (s : List ℕ) {k : ℕ} (count : k ≡ min (place_of flag s + 1) (length s)) (some : 0 < length s) where
  pub before-flag : (before_flag s k ≡ place_of flag s) × (ltb (before_flag s k) k ≡ holds flag s)
  unfolding before_flag
  before-flag = by_flag (holds flag s) refl
    where
      by_flag : (b : Bool) → holds flag s ≡ b
          → (cond (eqb (get_or s (k - 1) 0) flag) (k - 1) k ≡ place_of flag s)
          × (ltb (cond (eqb (get_or s (k - 1) 0) flag) (k - 1) k) k ≡ b)
      by_flag true f =
          let inside : place_of flag s < length s = ltb-true (place_of flag s) (length s) (sym (place-held flag s) ∙ f) in
          let n : k ≡ place_of flag s + 1 = omega arith in
          let m : k - 1 ≡ place_of flag s = omega arith in
          let here = eq-eqb (get_or s (k - 1) 0) flag (ap (λ (i : ℕ). get_or s i 0) m ∙ place-flag s f) in
          rw here (m, lt-ltb (k - 1) k (omega arith))
      by_flag false f =
          let n : k ≡ length s = omega (arith, (up-all s f).0) in
          let here = ne_eqb (get_or s (k - 1) 0) flag (holds-nowhere flag s f (k - 1) (omega arith)) in
          rw here (n ∙ sym (up-all s f).0, le-ltb k k (omega arith))

-- one octet at least is taken, and no more than there are
pub within : (s : List ℕ) {k : ℕ} → 0 < length s → k ≡ min (place_of flag s + 1) (length s) → (0 < k) × (k ≤ length s)
within s some count = (omega arith, omega arith)

-- what the code lent, and what came of it
module _ (N : ℕ) (c : Holding) (s : List ℕ) (limit : is_limit N ≡ true) (fits : Workable c) {q : List ℕ} {lent : ℕ}
    (part : q ≡ part_of 0 lent s) (reach : lent ≡ reach_of c.salvage.receiver s) (o : List ℕ)
    (room : length o ≡ frame_most limit_most) where
  same_takes : takes N (frame_most limit_most) (receiver_in c) q
      ≡ takes N (frame_most limit_most) (receiver_in c) (take (place_of flag s + 1) s)
  same_takes =
      ap (takes N (frame_most limit_most) (receiver_in c)) (part ∙ ap (λ (i : ℕ). take i s) reach)
      ∙ reach-takes N (frame_most limit_most) c s

  module _ (small : c.salvage.stretch.length < 2 ^ 64) (some : 0 < length s) {o' : List ℕ} {g : Held} {r : Received}
      (took : Receives (received N (receiver_in c) q (length o)) (receiver_in c) o (Ok r) g o') where
    pub reached-count : r.taken ≡ min (place_of flag s + 1) (length s)
    reached-count =
        heeds-count N c q limit fits o room took ∙ ap (λ (t : Took). t.count) same_takes ∙ taken-count N c s limit fits small

    pub reached : {w' p : List ℕ} {t : OpenStretch} {n : ℕ} {f : Verdict} → n ≡ before_flag s r.taken
        → t ≡ grown_by (length p) c.salvage.stretch → w' ≡ sets c.raw c.salvage.stretch.held p → p ≡ part_of 0 n s
        → f ≡ heard_verdict r.handed (ltb n r.taken) t.length
        → Gathers N c s (code-says g.marks t r.taken f) g.store w'
    reached {w'} {p} {t} {n} {f} before grown stored held verdict =
        let at = before-flag s reached-count some in
        let place : n ≡ place_of flag s = before ∙ at.0 in
        let up : p ≡ up_to s = held ∙ ap (λ (i : ℕ). take i s) place in
        let long : length p ≡ place_of flag s = ap length up ∙ omega (arith, length-take (place_of flag s) s, place-most s) in
        gathered N c s limit fits small
        (rw same_takes at (heeds N c q limit fits o room took))
        reached-count
        (grown ∙ ap (λ (i : ℕ). grown_by i c.salvage.stretch) long)
        stored
        up
        (verdict ∙ ap (λ (b : Bool). heard_verdict r.handed b t.length) (ap (λ (i : ℕ). ltb i r.taken) before ∙ at.1))
