-- Octets offered in any way: what is handed out, and the record, are those of the octets one by one, so they do not depend
-- on the cuts. 02 (i): "takes octets in runs of any length".
--   passed N h p q == how far a caller has come that began with the record h: the octets p are taken, q are left
-- Assumes nothing.
use mathlib.Core.Path.{◌≡◌, refl, sym, ap, ap₂, ◌∙◌}
use mathlib.Core.Bool.{true}
use mathlib.Core.List.{List, [], ◌∷◌, ◌++◌, append-nil, flatten}
use mathlib.Core.Logic.{⊎_elim}
use Prim.Native.Nat.{ℕ, zero, suc, ◌+◌, ◌-◌, ◌<◌, ◌≤◌}
use native.Mathlib.Omega.{arith}
use lib.ListN.{length, take, drop, take-append-drop, length-take, length-drop, drop_of_length-le}
use lib.Seq.{take-take, take-length, take-add, drop-drop}
use Rattle.limits.specs.Limits.{is_limit, frame_most}
use Rattle.receiver.specs.Held.{Held, Usable}
use Rattle.receiver.specs.Call.{Took, takes, took_by, held_by}
use Rattle.live.specs.Calls.{after_all, hand_outs, Offer, Worked, told_outs, outs_by, with_outs, offers, run_again, fed}
use Rattle.live.specs.Calls.{Roomy}
use Rattle.live.proofs.Steps.{after_all-usable, after-append, outs-append}
use Rattle.live.proofs.Answered.{says-room, not-refused, how-far, takes-at-least-one, takes-at-most}

-- one call takes its octets one by one
pub one-call : (N room : ℕ) (h : Held) (s : List ℕ) → frame_most N ≤ room
    → ((takes N room h s).held ≡ after_all h (take (takes N room h s).count s))
    × (told_outs (takes N room h s).told ≡ hand_outs N h (take (takes N room h s).count s))
unfolding told_outs
one-call N room h s fits =
    ⊎_elim (λ a. rw (a.count, a.told, take-length s) (a.held, sym a.outs))
    (λ (k, u). rw (u.count, u.told, says-room N room (after_all h (take k s)) fits) (u.held, sym u.outs))
    (how-far N room h s)

abbrev pub passed : ℕ → Held → List ℕ → List ℕ → Worked
passed N h p q = record { held = after_all h p; left = q; outs = hand_outs N h p }

-- what is passed in two parts
passed-append : (N : ℕ) (h : Held) (p q r : List ℕ)
    → with_outs (hand_outs N h p) (passed N (after_all h p) q r) ≡ passed N h (p ++ q) r
unfolding with_outs
passed-append N h p q r = rw (after-append h p q, outs-append N h p q)

-- something taken where there is something leaves less
one_less : (n t : ℕ) → (0 < n → 0 < t) → n - t ≤ n - 1
one_less zero t f = omega arith
one_less (suc n) t f = omega (arith, f (omega arith))

module _ (N : ℕ) (limit : is_limit N ≡ true) where
  -- one call, and then others; one that is lent all that is left leaves less of it
  call-first : (h : Held) (s : List ℕ) (c : Offer) (cs : List Offer) → Usable h → frame_most N ≤ c.room
      → (t : ℕ) × (t ≤ length s) × (length s ≤ c.octets → length s - t ≤ length s - 1)
      × (offers N h s (c ∷ cs) ≡ with_outs (hand_outs N h (take t s)) (offers N (after_all h (take t s)) (drop t s) cs))
  unfolding offers took_by held_by outs_by
  call-first h s c cs usable fits =
      let s' : List ℕ = take c.octets s in
      let t : Took = takes N c.room h s' in
      let most = takes-at-most N c.room h s' in
      let n = length-take c.octets s in
      let call = one-call N c.room h s' fits in
      let same : take t.count s' ≡ take t.count s = take-take t.count c.octets s (omega arith) in (
        t.count,
        omega arith,
        λ all. one_less (length s) t.count (λ some. takes-at-least-one N c.room h s' (omega arith)),
        rw (not-refused N h s' c.room limit usable fits, call.0, call.1, same),
      )

  -- every octet that is not left is taken once, in order
  pub offers-are : (h : Held) (s : List ℕ) (cs : List Offer) → Usable h → Roomy N cs
      → (t : ℕ) × (t ≤ length s) × (offers N h s cs ≡ passed N h (take t s) (drop t s))
  unfolding offers Roomy after_all hand_outs
  offers-are h s [] usable roomy = (0, omega arith, refl)
  offers-are h s (c ∷ cs) usable roomy =
      let (n, most, less, first) = call-first h s c cs usable roomy.0 in
      let p : List ℕ = take n s in
      let (m, rest, others) = offers-are (after_all h p) (drop n s) cs (after_all-usable h p usable) roomy.1 in (
        n + m,
        omega (arith, length-drop n s),
        first
            ∙ ap (with_outs (hand_outs N h p)) others
            ∙ passed-append N h p (take m (drop n s)) (drop m (drop n s))
            ∙ ap₂ (passed N h) (sym (take-add n m s)) (drop-drop m n s),
      )

  -- offers that leave nothing: all octets, one by one
  pub all-passed : (h : Held) (s : List ℕ) (cs : List Offer) → Usable h → Roomy N cs
      → (offers N h s cs).left ≡ [] → offers N h s cs ≡ passed N h s []
  all-passed h s cs usable roomy none =
      let (t, most, are) = offers-are h s cs usable roomy in
      let d : drop t s ≡ [] = sym (ap (λ (w : Worked). w.left) are) ∙ none in
      let p : take t s ≡ s = rw (d, append-nil) at (take-append-drop t s) in
      rw (are, d, p)

  -- two ways to offer the same octets end with the same record, and hand out the same
  pub any_way : (h : Held) (s : List ℕ) (cs ds : List Offer) → Usable h → Roomy N cs → Roomy N ds
      → (offers N h s cs).left ≡ [] → (offers N h s ds).left ≡ [] → offers N h s cs ≡ offers N h s ds
  any_way h s cs ds usable roomy roomy' none none' =
      all-passed h s cs usable roomy none ∙ sym (all-passed h s ds usable roomy' none')

  module _ (room : ℕ) (fits : frame_most N ≤ room) where
    again-roomy : (k n : ℕ) → Roomy N (run_again k n room)
    unfolding Roomy run_again
    again-roomy zero n = tt
    again-roomy (suc k) n = (fits, again-roomy k n)

    -- as many calls as there are octets, each with all that are left, leave none
    again-all : (h : Held) (s : List ℕ) (k n : ℕ) → Usable h → length s ≤ k → length s ≤ n
        → (offers N h s (run_again k n room)).left ≡ []
    unfolding offers with_outs run_again
    again-all h s zero n usable short within = drop_of_length-le s {i = 0} short
    again-all h s (suc k) n usable short within =
        let c : Offer = record { octets = n; room = room } in
        let (t, most, less, first) = call-first h s c (run_again k n room) usable fits in
        let l = length-drop t s in
        ap (λ (w : Worked). w.left) first
        ∙ again-all (after_all h (take t s)) (drop t s) k n (after_all-usable h (take t s) usable)
        (omega (arith, less within)) (omega arith)

    -- a run that is lent again and again is taken whole
    run-passed : (h : Held) (r : List ℕ) → Usable h
        → offers N h r (run_again (suc (length r)) (length r) room) ≡ passed N h r []
    run-passed h r usable =
        let k : ℕ = suc (length r) in
        all-passed h r (run_again k (length r) room) usable (again-roomy k (length r))
        (again-all h r k (length r) usable (omega arith) (omega arith))

    -- 02 (i): runs of any length, empty ones too, are taken whole, in order
    pub fed-all : (h : Held) (rs : List (List ℕ)) → Usable h → fed N room h rs ≡ passed N h (flatten rs) []
    unfolding fed flatten after_all hand_outs with_outs
    fed-all h [] usable = refl
    fed-all h (r ∷ rs) usable =
        rw (run-passed h r usable, fed-all (after_all h r) rs (after_all-usable h r usable))
        (passed-append N h r (flatten rs) [])

  -- however octets are cut into runs, and whatever room there is for a frame
  pub cuts : {room room' : ℕ} → frame_most N ≤ room → frame_most N ≤ room' → (h : Held) (rs qs : List (List ℕ)) → Usable h
      → flatten rs ≡ flatten qs → fed N room h rs ≡ fed N room' h qs
  cuts {room} {room'} fits fits' h rs qs usable e =
      fed-all room fits h rs usable ∙ ap (λ (s : List ℕ). passed N h s []) e ∙ sym (fed-all room' fits' h qs usable)
