-- A call, a stretch a turn: what was made of the octets before comes to the same as of all.
--   Gone N c₀ s o₀ at put c o == up to the place at of s a call that began with c₀ and the output o₀ has put octets into o up
--                 to the place put, carries c, and has left out nothing
-- Assumes nothing.
use Rattle.std.proofs.Common.{Option, Some, None, Ok, ◌≡◌, ℕ, suc, ◌+◌, ◌-◌, ◌<◌, ◌≤◌, Bool, true, false, cond, eqb, ◌⊎◌, List, [], ◌∷◌, ◌++◌, length, take, drop, sym, refl, ap, ◌∙◌, ap₂, inl, inr, ⊎_elim, append_assoc, append-nil, add-zero, add_assoc, zero-add, arith, length-append, length-drop, take-append-drop, drop_of_length-le, length-take, drop-drop, ltb-true, ne_eqb}
use denote.Enum.Declared.{tag_of}
use types.Run.{OneOf}
use lib.Seq.{sets, length-sets}
use Rattle.octets.specs.Octets.{holds, place_of}
use Rattle.octets.specs.Puts.{Puts}
use Rattle.octets.proofs.Stores.{sets-append, sets-start}
use Rattle.octets.proofs.Takes.{take_rest}
use Rattle.octets.proofs.Words.{holds-head, holds-tail, place-held}
use Rattle.refusal.specs.Answer.{Answer, gives, refuses}
use Rattle.frame.specs.Line.{flag}
use Rattle.limits.specs.Limits.{is_limit, limit_most, frame_most}
use Rattle.receiver.specs.Held.{stretched, stretch_says}
use Rattle.receiver.proofs.After.{after-usable}
use Rattle.salvage.specs.Holding.{Holding, holding_of, receiver_in, Workable, grown_by, with_octet, said_verdict, verdict_of}
use Rattle.salvage.specs.Holding.{onward_from, flag_counted, stretch_over, behind_flag, past_flag, behind_flag_in, closed_by, first_flag, kept_octets}
use Rattle.salvage.specs.Work.{a_stretch, Progress, in_front, at_flag, works, spare_most, stretch_of}
use Rattle.salvage.specs.Work.{dropping_of, listing_of, taken_of, written_of, left_by, taken_by, wrote_by, holding_by, Salvages}
use Rattle.salvage.specs.Pieces.{with_all, up_to, gathered_in, verdict_in, written_by, joined, Touched, gathered_with, Gathers, GathersAny}
use Rattle.salvage.specs.Pieces.{followed, begun_by, flags_added, counted_by, settled_by, listed_by, goes_until}
use Rattle.salvage.specs.declared.Salvage.{Salvage}
use Rattle.salvage.specs.declared.Gathered.{Gathered}
use Rattle.receiver.specs.declared.Receiver.{Receiver}
use Rattle.salvage.specs.declared.Verdict.{Verdict}
use Rattle.salvage.specs.declared.Verdict.TheVariants.{Still, Empty, Kept, Dropped}
use Rattle.salvage.specs.declared.Stretch.{Stretch}
use Rattle.salvage.specs.contracts.Verdict.{the_type}
use Rattle.salvage.proofs.Writing.{nothing_put, first-length, kept-length}
use Rattle.salvage.proofs.Gathering.{up-flagless, up-all, up-flag, place-most}

-- so many octets in front, and more
front-front : (i j : ℕ) (a b : List ℕ) (t : Progress) → in_front i a (in_front j b t) ≡ in_front (i + j) (a ++ b) t
unfolding in_front
front-front i j a b t = rw (add_assoc, append_assoc)

-- octets without a flag, one by one
works-piece : (N : ℕ) (p rest : List ℕ) (c : Holding) → holds flag p ≡ false
    → works N c (p ++ rest) ≡ in_front (length p) [] (works N (with_all c p) rest)
unfolding works with_all in_front
works-piece N [] rest c f = rw zero-add
works-piece N (x ∷ p) rest c f =
    let other = ne_eqb x flag (holds-head flag x p f) in
    let n : 1 + length p ≡ suc (length p) = omega arith in
    rw (other, ← n, works-piece N p rest (with_octet c x) (holds-tail flag x p f))
    (front-front 1 (length p) [] [] (works N (with_all (with_octet c x) p) rest))

-- all octets, where there is no flag
works-still : (N : ℕ) (c : Holding) (u : List ℕ) → holds flag u ≡ false
    → works N c u ≡ in_front (length u) [] (works N (with_all c (up_to u)) [])
works-still N c u f =
    let whole : up_to u ≡ u = (up-all u f).1 in
    ap (works N c) (sym (append-nil (up_to u) ∙ whole)) ∙ works-piece N (up_to u) [] c (up-flagless u)
    ∙ ap (λ (l : List ℕ). in_front (length l) [] (works N (with_all c (up_to u)) [])) whole

works_at : (N : ℕ) (d : Holding) (xs : List ℕ)
    → works N d (flag ∷ xs) ≡ at_flag (verdict_of N d) d (works N (closed_by (verdict_of N d) d) xs)
unfolding works
works_at N d xs = refl

-- up to a flag, and the flag
works-flag : (N : ℕ) (c : Holding) (u : List ℕ) → holds flag u ≡ true → (d : Holding) → d ≡ with_all c (up_to u)
    → works N c u
    ≡ in_front (place_of flag u) [] (at_flag (verdict_of N d) d (works N (closed_by (verdict_of N d) d) (drop (place_of flag u + 1) u)))
works-flag N c u f d e =
    let n : ℕ = place_of flag u in
    let whole : u ≡ up_to u ++ (flag ∷ drop (n + 1) u) =
    sym (take-append-drop (n + 1) u) ∙ ap (λ (l : List ℕ). l ++ drop (n + 1) u) (up-flag u f)
    ∙ append_assoc (up_to u) (flag ∷ []) (drop (n + 1) u) in
    let long : length (up_to u) ≡ n = omega (arith, length-take n u, place-most u) in
    ap (works N c) whole ∙ works-piece N (up_to u) (flag ∷ drop (n + 1) u) c (up-flagless u)
    ∙ ap₂ (λ (k : ℕ) (h : Holding). in_front k [] (works N h (flag ∷ drop (n + 1) u))) long (sym e)
    ∙ ap (in_front n []) (works_at N d (drop (n + 1) u))

-- at a flag the stretch is over
pub verdict-over : (N : ℕ) (d : Holding) → verdict_of N d ≡ Still → ⊥
unfolding verdict_of said_verdict
verdict-over N d e =
    by_cases (stretched d.salvage.receiver) (stretch_says N (frame_most limit_most) (receiver_in d))
    (eqb d.salvage.stretch.length 0) e
  where
    by_cases : (t : Bool) (a : Answer (List ℕ)) (z : Bool) → cond t (said_verdict a) (cond z Empty (Dropped 0)) ≡ Still → ⊥
    by_cases true (gives b) z e = let w : ◌≡◌ {A = ℕ} 2 0 = ap (tag_of the_type) e in omega arith
    by_cases true (refuses k) z e = let w : ◌≡◌ {A = ℕ} 3 0 = ap (tag_of the_type) e in omega arith
    by_cases false a true e = let w : ◌≡◌ {A = ℕ} 1 0 = ap (tag_of the_type) e in omega arith
    by_cases false a false e = let w : ◌≡◌ {A = ℕ} 3 0 = ap (tag_of the_type) e in omega arith

-- a stretch that is not left out
abbrev pub Goes : Verdict → Type 0
Goes f = OneOf (0 ∷ 1 ∷ 2 ∷ []) (tag_of the_type f)

dropped-stops : (k : ℕ) → Goes (Dropped k) → ⊥
dropped-stops k g = ⊎_elim (λ e. omega arith) (⊎_elim (λ e. omega arith) (λ e. omega arith)) g

at_goes : (f : Verdict) (d : Holding) (t : Progress) → Goes f → (f ≡ Still → ⊥)
    → at_flag f d t ≡ in_front 1 (written_by f d.salvage.begun d.salvage.stretch.held d.raw) t
unfolding at_flag past_flag
at_goes Still d t g n = absurd (n refl)
at_goes Empty d t g n = refl
at_goes Kept d t g n = refl
at_goes (Dropped k) d t g n = absurd (dropped-stops k g)

kept-open : Kept ≡ Still → ⊥
kept-open e = let w : ◌≡◌ {A = ℕ} 2 0 = ap (tag_of the_type) e in omega arith

dropped-open : {k : ℕ} → Dropped k ≡ Still → ⊥
dropped-open e = let w : ◌≡◌ {A = ℕ} 3 0 = ap (tag_of the_type) e in omega arith

empty-open : Empty ≡ Still → ⊥
empty-open e = let w : ◌≡◌ {A = ℕ} 1 0 = ap (tag_of the_type) e in omega arith

-- what was gathered, and what is made of it
module _ (N : ℕ) (c : Holding) (u : List ℕ) {r : Touched} {m w : List ℕ} (g : Gathers N c u r m w) where
  taken-still : holds flag u ≡ false → (r.taken ≡ length u) × (r.verdict ≡ Still) × (holding_of (joined c.salvage r) m w ≡ with_all c (up_to u))
  unfolding verdict_in gathered_in
  taken-still f = (
    omega (arith, g.count, (up-all u f).0),
    g.verdict ∙ ap (λ (t : Bool). cond t (verdict_of N (with_all c (up_to u))) Still) f,
    g.holding ∙ ap (λ (t : Bool). cond t (past_flag (with_all c (up_to u))) (with_all c (up_to u))) f,
  )

  taken-flag : holds flag u ≡ true → (r.taken ≡ place_of flag u + 1) × (r.verdict ≡ verdict_of N (with_all c (up_to u)))
      × (holding_of (joined c.salvage r) m w ≡ past_flag (with_all c (up_to u)))
  unfolding verdict_in gathered_in
  taken-flag f = (
    omega (arith, g.count, ltb-true (place_of flag u) (length u) (sym (place-held flag u) ∙ f)),
    g.verdict ∙ ap (λ (t : Bool). cond t (verdict_of N (with_all c (up_to u))) Still) f,
    g.holding ∙ ap (λ (t : Bool). cond t (past_flag (with_all c (up_to u))) (with_all c (up_to u))) f,
  )

  goes-still : holds flag u ≡ false → works N c u
      ≡ in_front r.taken (written_by r.verdict c.salvage.begun r.stretch.held w)
      (works N (holding_of (behind_flag r.verdict (joined c.salvage r)) m w) (drop r.taken u))
  unfolding behind_flag
  goes-still f =
      let (n, v, h) = taken-still f in
      let none : drop (length u) u ≡ [] = drop_of_length-le u {i = length u} (omega arith) in
      rw (v, n, h, none) (works-still N c u f)

  goes-flag : holds flag u ≡ true → Goes r.verdict → works N c u
      ≡ in_front r.taken (written_by r.verdict c.salvage.begun r.stretch.held w)
      (works N (holding_of (behind_flag r.verdict (joined c.salvage r)) m w) (drop r.taken u))
  unfolding closed_by behind_flag_in past_flag
  goes-flag f goes =
      let (n, v, h) = taken-flag f in
      let d : Holding = with_all c (up_to u) in
      let rest : Progress = works N (closed_by (verdict_of N d) d) (drop (place_of flag u + 1) u) in
      works-flag N c u f d refl
      ∙ ap (in_front (place_of flag u) []) (at_goes (verdict_of N d) d rest (rw v at goes) (verdict-over N d))
      ∙ front-front (place_of flag u) 1 [] (written_by (verdict_of N d) d.salvage.begun d.salvage.stretch.held d.raw) rest
      ∙ rw (n, v) (ap (λ (g : Holding). in_front (place_of flag u + 1) (written_by (verdict_of N d) g.salvage.begun g.salvage.stretch.held g.raw)
      (works N (behind_flag_in (verdict_of N d) g) (drop (place_of flag u + 1) u))) (sym h))

  -- a stretch that is not left out: the call goes on
  pub goes_on : Goes r.verdict → works N c u
      ≡ in_front r.taken (written_by r.verdict c.salvage.begun r.stretch.held w)
      (works N (holding_of (behind_flag r.verdict (joined c.salvage r)) m w) (drop r.taken u))
  goes_on goes = by_flag (holds flag u) refl
    where
      by_flag : (t : Bool) → holds flag u ≡ t → works N c u
          ≡ in_front r.taken (written_by r.verdict c.salvage.begun r.stretch.held w)
          (works N (holding_of (behind_flag r.verdict (joined c.salvage r)) m w) (drop r.taken u))
      by_flag false f = goes-still f
      by_flag true f = goes-flag f goes

  -- a stretch is over only at a flag
  pub over-flag : (r.verdict ≡ Still → ⊥) → holds flag u ≡ true
  over-flag over = by_flag (holds flag u) refl
    where
      by_flag : (t : Bool) → holds flag u ≡ t → holds flag u ≡ true
      by_flag true f = f
      by_flag false f = absurd (over (taken-still f).1)

  pub over-taken : (r.verdict ≡ Still → ⊥) → (r.taken ≡ place_of flag u + 1) × (r.taken ≤ length u)
  over-taken over =
      let n = (taken-flag (over-flag over)).0 in (n, omega (arith, g.count))

  -- one that is: it stops behind it
  pub stops : {k : ℕ} → r.verdict ≡ Dropped k → works N c u
      ≡ record {
        holding = holding_of (behind_flag r.verdict (joined c.salvage r)) m w;
        count = r.taken;
        written = [];
        left = a_stretch (stretch_of (joined c.salvage r) k);
      }
  unfolding at_flag closed_by behind_flag_in past_flag in_front stretch_of
  stops {k} e =
      let f = over-flag (λ n. dropped-open (sym e ∙ n)) in
      let (n, v, h) = taken-flag f in
      let d : Holding = with_all c (up_to u) in
      let same : verdict_of N d ≡ Dropped k = sym v ∙ e in
      works-flag N c u f d refl
      ∙ rw (same, e, n, append-nil)
      (ap (λ (g : Holding). record {
        holding = behind_flag_in (Dropped k) g;
        count = place_of flag u + 1;
        written = [];
        left = a_stretch (stretch_of g.salvage k);
      }) (sym h))

pub octet-workable : (c : Holding) (x : ℕ) → Workable c → Workable (with_octet c x)
unfolding with_octet grown_by
octet-workable c x fits =
    let u = after-usable (receiver_in c) x fits.0 in
    ((u.0, u.1), length-sets c.raw c.salvage.stretch.held (x ∷ []) ∙ fits.1, omega arith)

octet-begun : (c : Holding) (x : ℕ) → (with_octet c x).salvage.begun ≡ c.salvage.begun
unfolding with_octet
octet-begun c x = refl

octet-held : (c : Holding) (x : ℕ) → (with_octet c x).salvage.stretch.held ≤ c.salvage.stretch.held + 1
unfolding with_octet grown_by
octet-held c x = omega arith

-- octets without a flag keep a record that is not refused, whether the first flag is written, and hold no more than they are
all-workable : (p : List ℕ) (c : Holding) → Workable c → Workable (with_all c p)
unfolding with_all
all-workable [] c fits = fits
all-workable (x ∷ p) c fits = all-workable p (with_octet c x) (octet-workable c x fits)

all-begun : (p : List ℕ) (c : Holding) → (with_all c p).salvage.begun ≡ c.salvage.begun
unfolding with_all
all-begun [] c = refl
all-begun (x ∷ p) c = all-begun p (with_octet c x) ∙ octet-begun c x

all_held : (p : List ℕ) (c : Holding) → (with_all c p).salvage.stretch.held ≤ c.salvage.stretch.held + length p
unfolding with_all
all_held [] c = omega arith
all_held (x ∷ p) c = omega (arith, all_held p (with_octet c x), octet-held c x)

pub past-workable : (c : Holding) → Workable c → Workable (past_flag c)
unfolding past_flag
past-workable c fits = ((fits.0.0, omega arith), fits.1, fits.2)

past-begun : (c : Holding) → (past_flag c).salvage.begun ≡ c.salvage.begun
unfolding past_flag
past-begun c = refl

past-held : (c : Holding) → (past_flag c).salvage.stretch.held ≡ c.salvage.stretch.held
unfolding past_flag
past-held c = refl

pub behind-workable : (f : Verdict) (v : Salvage) (m w : List ℕ) → Workable (holding_of v m w)
    → Workable (holding_of (behind_flag f v) m w)
unfolding behind_flag stretch_over onward_from
behind-workable Still v m w fits = fits
behind-workable Empty v m w fits = (fits.0, fits.1, omega arith)
behind-workable Kept v m w fits = (fits.0, fits.1, omega arith)
behind-workable (Dropped k) v m w fits = (fits.0, fits.1, omega arith)

-- what is held of the open stretch, and what is written of it: no more than came
pub record Weighs (c : Holding) (n : ℕ) (h : Holding) : Type 0 where
  pub fits : Workable h
  pub begun : h.salvage.begun ≡ c.salvage.begun
  pub held : h.salvage.stretch.held ≤ c.salvage.stretch.held + n

module _ (N : ℕ) (c : Holding) (u : List ℕ) {r : Touched} {m w : List ℕ} (g : Gathers N c u r m w) (fits : Workable c) where
  all-weighs : Weighs c (place_of flag u) (with_all c (up_to u))
  all-weighs =
      let long : length (up_to u) ≤ place_of flag u = omega (arith, length-take (place_of flag u) u) in
      record {
        fits = all-workable (up_to u) c fits;
        begun = all-begun (up_to u) c;
        held = omega (arith, all_held (up_to u) c);
      }

  pub weighs : Weighs c (place_of flag u) (holding_of (joined c.salvage r) m w)
  unfolding gathered_in
  weighs = rw g.holding (by_flag (holds flag u))
    where
      by_flag : (t : Bool) → Weighs c (place_of flag u) (cond t (past_flag (with_all c (up_to u))) (with_all c (up_to u)))
      by_flag true =
          let d : Holding = with_all c (up_to u) in
          let a = all-weighs in
          record {
            fits = past-workable d a.fits;
            begun = past-begun d ∙ a.begun;
            held = omega (arith, past-held d, a.held);
          }
      by_flag false = all-weighs

pub record Gone (N : ℕ) (c₀ : Holding) (s o₀ : List ℕ) (at put : ℕ) (c : Holding) (o : List ℕ) : Type 0 where
  pub written : List ℕ
  pub few : at ≤ length s
  pub same : works N c₀ s ≡ in_front at written (works N c (drop at s))
  pub puts : Puts o₀ 0 written put o
  pub fits : Workable c
  pub limit : is_limit N ≡ true
  pub wide : spare_most + length s ≤ length o₀
  pub room : put + length (first_flag c.salvage.begun) + c.salvage.stretch.held + (length s - at)
      ≤ spare_most + length s

pub gone-none : {N : ℕ} {c : Holding} {s o : List ℕ} → Workable c → is_limit N ≡ true → spare_most + length s ≤ length o
    → Gone N c s o 0 0 c o
unfolding in_front
gone-none {c = c} fits limit wide =
    record {
      written = [];
      few = omega arith;
      same = rw zero-add;
      puts = nothing_put;
      fits = fits;
      limit = limit;
      wide = wide;
      room = omega (arith, fits.2, first-length c.salvage.begun);
    }

puts-more : {o₀ o o' a b : List ℕ} {k j : ℕ} → Puts o₀ 0 a k o → Puts o k b j o' → Puts o₀ 0 (a ++ b) j o'
puts-more {o₀} {o} {a = a} {b = b} {k = k} p q =
    let n : 0 + length a ≡ k = omega (arith, p.count) in
    record {
      count = omega (arith, p.count, q.count, length-append a b);
      octets =
          q.octets ∙ ap (λ (l : List ℕ). sets l k b) p.octets
          ∙ sym (sets-append a b o₀ 0 ∙ ap (λ (i : ℕ). sets (sets o₀ 0 a) i b) n);
    }

pub out-length : {N : ℕ} {c₀ : Holding} {s o₀ : List ℕ} {at put : ℕ} {c : Holding} {o : List ℕ}
    → Gone N c₀ s o₀ at put c o → length o ≡ length o₀
out-length {o₀ = o₀} gone = ap length gone.puts.octets ∙ length-sets o₀ 0 gone.written

-- what was gathered from the place at on
module _ {N : ℕ} {c₀ : Holding} {s o₀ : List ℕ} {at put : ℕ} {c : Holding} {o : List ℕ} (gone : Gone N c₀ s o₀ at put c o)
    {r : Touched} {m w : List ℕ} (g : Gathers N c (drop at s) r m w) where
  left-length : length (drop at s) ≡ length s - at
  left-length = length-drop at s

  pub taken-few : at + r.taken ≤ length s
  taken-few = omega (arith, g.count, left-length, gone.few)

  pub taken-some : at < length s → 0 < r.taken
  taken-some i = omega (arith, g.count, left-length)

  pub held-inside : r.stretch.held ≤ length w
  held-inside =
      let h = weighs N c (drop at s) g gone.fits in omega (arith, h.fits.1, h.fits.2)

  kept-room : r.verdict ≡ Kept
      → put + length (kept_octets c.salvage.begun r.stretch.held w) + (length s - (at + r.taken))
      ≤ spare_most + length s
  kept-room e =
      let h = weighs N c (drop at s) g gone.fits in
      let over = over-taken N c (drop at s) g (λ n. kept-open (sym e ∙ n)) in
      let long = kept-length c.salvage.begun r.stretch.held w (omega (arith, h.fits.1, h.fits.2)) in
      omega (arith, gone.room, gone.few, h.held, over.0, over.1, left-length, long)

  -- there is room for what is written
  pub written-fits : put + length (written_by r.verdict c.salvage.begun r.stretch.held w) ≤ length o
  written-fits = by-verdict r.verdict refl
    where
      by-verdict : (f : Verdict) → r.verdict ≡ f → put + length (written_by f c.salvage.begun r.stretch.held w) ≤ length o
      by-verdict Still e = omega (arith, gone.room, gone.wide, out-length gone)
      by-verdict Empty e = omega (arith, gone.room, gone.wide, out-length gone)
      by-verdict Kept e = omega (arith, kept-room e, gone.wide, out-length gone)
      by-verdict (Dropped k) e = omega (arith, gone.room, gone.wide, out-length gone)

  module _ {put' : ℕ} {o' : List ℕ} (more : Puts o put (written_by r.verdict c.salvage.begun r.stretch.held w) put' o') where
    room-on : (f : Verdict) → r.verdict ≡ f → Goes f → put' ≡ put + length (written_by f c.salvage.begun r.stretch.held w)
        → put' + length (first_flag (behind_flag f (joined c.salvage r)).begun) + (behind_flag f (joined c.salvage r)).stretch.held
        + (length s - (at + r.taken))
        ≤ spare_most + length s
    unfolding behind_flag stretch_over onward_from first_flag
    room-on Still e goes n =
        let h = weighs N c (drop at s) g gone.fits in
        omega (arith, gone.room, h.held, g.count, left-length, place-most (drop at s))
    room-on Empty e goes n = omega (arith, gone.room)
    room-on Kept e goes n = omega (arith, kept-room e)
    room-on (Dropped k) e goes n = absurd (dropped-stops k goes)

    -- a turn that leaves out nothing
    pub gone-on : Goes r.verdict
        → Gone N c₀ s o₀ (at + r.taken) put' (holding_of (behind_flag r.verdict (joined c.salvage r)) m w) o'
    gone-on goes =
        let c' : Holding = holding_of (behind_flag r.verdict (joined c.salvage r)) m w in
        record {
          written = gone.written ++ written_by r.verdict c.salvage.begun r.stretch.held w;
          few = taken-few;
          same =
              gone.same
              ∙ ap (in_front at gone.written) (goes_on N c (drop at s) g goes)
              ∙ front-front at r.taken gone.written (written_by r.verdict c.salvage.begun r.stretch.held w)
              (works N c' (drop r.taken (drop at s)))
              ∙ ap
              (λ (u : List ℕ). in_front (at + r.taken) (gone.written ++ written_by r.verdict c.salvage.begun r.stretch.held w) (works N c' u))
              (drop-drop r.taken at s);
          puts = puts-more gone.puts more;
          fits = behind-workable r.verdict (joined c.salvage r) m w (weighs N c (drop at s) g gone.fits).fits;
          limit = gone.limit;
          wide = gone.wide;
          room = room-on r.verdict refl goes more.count;
        }

    -- one that leaves out a stretch: the call is over
    pub gone-stops : {k : ℕ} → r.verdict ≡ Dropped k → Salvages (gives (works N c₀ s)) c₀ o₀
        (Ok (record {
          taken = at + r.taken;
          written = put';
          left_out =
              Some
              (record { offset = r.stretch.offset; length = r.stretch.length; number = k });
        }))
        (holding_of (behind_flag r.verdict (joined c.salvage r)) m w) o'
    unfolding dropping_of listing_of taken_of written_of left_by taken_by wrote_by holding_by in_front stretch_of
    gone-stops {k} e =
        let nothing : written_by r.verdict c.salvage.begun r.stretch.held w ≡ [] = rw e in
        let over = gone.same ∙ ap (in_front at gone.written) (stops N c (drop at s) g e) in
        let last = puts-more gone.puts more in
        rw over
        (record {
          answer = refl;
          count = refl;
          written = rw append-nil (rw (nothing, append-nil) at last.count ∙ zero-add (length gone.written));
          holding = refl;
          octets = rw append-nil (rw (nothing, append-nil) at last.octets
              ∙ sets-start gone.written o₀ (omega (arith, gone.room, gone.wide, gone.puts.count)));
        })

-- all octets are taken
pub gone-all : {N : ℕ} {c₀ : Holding} {s o₀ : List ℕ} {at put : ℕ} {c : Holding} {o : List ℕ} → Gone N c₀ s o₀ at put c o
    → length s ≤ at → Salvages (gives (works N c₀ s)) c₀ o₀
    (Ok (record { taken = at; written = put; left_out = None })) c o
unfolding dropping_of listing_of taken_of written_of left_by taken_by wrote_by holding_by in_front works
gone-all {N} {s = s} {o₀ = o₀} {at = at} {c = c} gone all =
    let none : drop at s ≡ [] = drop_of_length-le s {i = at} all in
    let over = gone.same ∙ ap (λ (u : List ℕ). in_front at gone.written (works N c u)) none in
    rw over
    (record {
      answer = refl;
      count = sym (add-zero at);
      written = rw append-nil (gone.puts.count ∙ zero-add (length gone.written));
      holding = refl;
      octets = rw append-nil (gone.puts.octets
          ∙ sets-start gone.written o₀ (omega (arith, gone.room, gone.wide, gone.puts.count)));
    })

-- the record that the code puts together
settled_is : (f : Verdict) (v : Salvage) (r : Touched) → settled_by 1 f r.receiver r.stretch v ≡ behind_flag f (joined v r)
unfolding settled_by followed begun_by counted_by flags_added behind_flag stretch_over flag_counted
settled_is Still v r = refl
settled_is Empty v r = refl
settled_is Kept v r = refl
settled_is (Dropped k) v r = refl

-- it goes on, or is over
abbrev pub Stands : ℕ → Holding → List ℕ → List ℕ → ℕ → ℕ → Holding → List ℕ → Option Stretch → ℕ → Type 0
Stands N c₀ s o₀ at put c o l end =
    (Gone N c₀ s o₀ at put c o × (l ≡ None) × (end ≡ length s))
    ⊎ ((end ≤ at)
    × Salvages (gives (works N c₀ s)) c₀ o₀ (Ok (record { taken = at; written = put; left_out = l })) c o)

pub record Turns (N : ℕ) (c₀ : Holding) (s o₀ : List ℕ) (at put : ℕ) (c : Holding) (o : List ℕ) (l : Option Stretch) (end : ℕ) : Type 0 where
  pub store : length c.store ≡ length c₀.store
  pub raw : length c.raw ≡ length c₀.raw
  pub out : length o ≡ length o₀
  pub state : Stands N c₀ s o₀ at put c o l end

pub turns-none : {N : ℕ} {c : Holding} {s o : List ℕ} → Workable c → is_limit N ≡ true → spare_most + length s ≤ length o
    → Turns N c s o 0 0 c o None (length s)
turns-none fits limit wide =
    record { store = refl; raw = refl; out = refl; state = inl (gone-none fits limit wide, refl, refl) }

module _ {N : ℕ} {c₀ : Holding} {s o₀ : List ℕ} {at put : ℕ} {c : Holding} {o : List ℕ} {l : Option Stretch} {end : ℕ}
    (turns : Turns N c₀ s o₀ at put c o l end) where
  pub turns-over : end ≤ at → Salvages (gives (works N c₀ s)) c₀ o₀
      (Ok (record { taken = at; written = put; left_out = l })) c o
  turns-over over =
      ⊎_elim
      (λ g. rw g.1 (gone-all g.0 (omega (arith, g.2))))
      (λ g. g.1)
      turns.state

  module _ (more : at < end) where
    pub going : Gone N c₀ s o₀ at put c o × (l ≡ None) × (end ≡ length s)
    going = ⊎_elim (λ g. g) (λ g. absurd (omega (arith, g.0))) turns.state

    pub inside : at ≤ length s
    inside = omega (arith, going.2)

    pub rest_some : 0 < length (take (length s - at) (drop at s))
    rest_some = rw (take_rest at s) (omega (arith, length-drop at s, going.2))

    module _ {x : Gathered} {q : Receiver} {m w : List ℕ}
        (any : GathersAny N c.salvage.receiver c.salvage.stretch c.store c.raw (take (length s - at) (drop at s)) (Ok x) q m w) where
      abbrev pub r : Touched
      r = gathered_with q x

      these : Gathers N c (drop at s) r m w
      these = rw (take_rest at s) at (any c.salvage.begun c.salvage.totals)

      pub turn-few : at + r.taken ≤ length s
      turn-few = taken-few going.0 these

      pub turn-less : length s - (at + r.taken) < length s - at
      turn-less =
          let inside : at < length s = omega (arith, going.2) in
          omega (arith, taken-some going.0 these inside)

      pub turn-held : r.stretch.held ≤ length w
      turn-held = held-inside going.0 these

      pub turn-fits : put + length (written_by r.verdict c.salvage.begun r.stretch.held w) ≤ length o
      turn-fits = written-fits going.0 these

      pub turn_on : {put' : ℕ} {o' : List ℕ}
          → Puts o put (written_by r.verdict c.salvage.begun r.stretch.held w) put' o'
          → {k : Option Stretch} {e : ℕ} {v : Salvage} → k ≡ listed_by r.stretch r.verdict → e ≡ goes_until r.verdict (at + r.taken) end
          → v ≡ settled_by 1 r.verdict r.receiver r.stretch c.salvage
          → Turns N c₀ s o₀ (at + r.taken) put' (holding_of v m w) o' k e
      unfolding listed_by goes_until
      turn_on {put'} {o'} puts {k} {e} {v} listed until settled =
          let h = weighs N c (drop at s) these going.0.fits in
          let v-is : v ≡ behind_flag r.verdict (joined c.salvage r) = settled ∙ settled_is r.verdict c.salvage r in
          record {
            store = h.fits.0.0 ∙ sym going.0.fits.0.0 ∙ turns.store;
            raw = h.fits.1 ∙ sym going.0.fits.1 ∙ turns.raw;
            out = ap length puts.octets ∙ length-sets o put (written_by r.verdict c.salvage.begun r.stretch.held w) ∙ turns.out;
            state = rw v-is (by-verdict r.verdict refl listed until);
          }
        where
          by-verdict : (f : Verdict) → r.verdict ≡ f → k ≡ listed_by r.stretch f → e ≡ goes_until f (at + r.taken) end
              → Stands N c₀ s o₀ (at + r.taken) put' (holding_of (behind_flag r.verdict (joined c.salvage r)) m w) o' k e
          by-verdict Still f x y = inl (gone-on going.0 these puts (rw f (inl refl)), x, y ∙ going.2)
          by-verdict Empty f x y = inl (gone-on going.0 these puts (rw f (inr (inl refl))), x, y ∙ going.2)
          by-verdict Kept f x y = inl (gone-on going.0 these puts (rw f (inr (inr refl))), x, y ∙ going.2)
          by-verdict (Dropped j) f x y = inr (omega (arith, y), rw x (gone-stops going.0 these puts f))
