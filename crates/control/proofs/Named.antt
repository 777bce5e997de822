-- The controls that 01 names are read as what they are, what is read so is one of them, and any other is Unknown.
-- Assumes nothing.
use mathlib.Core.Path.{◌≡◌, refl, sym, ap, ◌∙◌}
use mathlib.Core.Bool.{Bool, true, false, cond, ◌&&◌}
use mathlib.Core.Logic.{◌↔◌, ◌⊎◌, inl, inr, ⊎_elim}
use mathlib.Core.Option.{none, some}
use Prim.Native.Nat.{ℕ, ◌+◌, ◌*◌, ◌/◌, ◌%◌, ◌<◌}
use native.Mathlib.Nat.{add-mul-mod_self_right, mod-eq_of_lt, mod-lt}
use native.Mathlib.Omega.{arith}
use borrow.Author.Tests.{eq-eqb, ne_eqb}
use lib.Dec.{T, eqb, ltb, lit<, eqb→eq, ltb→lt}
use lib.ListN.{replicate, length-replicate}
use Rattle.octets.proofs.Every.{at}
use Rattle.control.specs.Control.{polled, next_of, info_of, rr_of, rnr_of, control_for, UpTo7, numbered_by, asked_by, Asks}
use Rattle.control.specs.declared.Order.{Order}
use Rattle.control.specs.declared.Order.TheVariants.{Xid, Snrm, Disc, Info, Rr, Rnr, Unknown}

-- an octet that is none of the three named whole is read by its numbers
by-numbers : (c : ℕ) → (c ≡ 0xBF → ⊥) → (c ≡ 0x93 → ⊥) → (c ≡ 0x53 → ⊥) → asked_by c ≡ numbered_by c
unfolding asked_by
by-numbers c x s d = rw (ne_eqb c 0xBF x, ne_eqb c 0x93 s, ne_eqb c 0x53 d)

-- the numbers of an octet that is written as 01 writes it: n below 8 at the value 2, m at 32
low-number : (n m : ℕ) → n < 8 → (8 + n + m * 16) % 8 ≡ n
low-number n m h =
    let e : 8 + n + m * 16 ≡ n + (1 + m * 2) * 8 = omega arith in
    ap (λ (x : ℕ). x % 8) e ∙ add-mul-mod_self_right n (1 + m * 2) 8 ∙ mod-eq_of_lt h

-- an I-frame's control, RR's and RNR's, with numbers of 0 to 7
module _ (ns nr : ℕ) (hs : ns < 8) (hr : nr < 8) where
  info-read : asked_by (0x10 + ns * 2 + nr * 32) ≡ Info ns nr
  unfolding numbered_by
  info-read =
      let c : ℕ = 0x10 + ns * 2 + nr * 32 in
      let even : c % 2 ≡ 0 = omega arith in
      let half : c / 2 ≡ 8 + ns + nr * 16 = omega arith in
      let low : c / 2 % 8 ≡ ns = ap (λ (x : ℕ). x % 8) half ∙ low-number ns nr hs in
      let high : c / 32 ≡ nr = omega arith in
      by-numbers c (λ e. omega arith) (λ e. omega arith) (λ e. omega arith)
      ∙ rw (eq-eqb (c % 2) 0 even, low, high)

module _ (nr : ℕ) (hr : nr < 8) where
  rr-read : asked_by (0x11 + nr * 32) ≡ Rr nr
  unfolding numbered_by
  rr-read =
      let c : ℕ = 0x11 + nr * 32 in
      let odd : (c % 2 ≡ 0 → ⊥) = λ e. omega arith in
      let low : c % 32 ≡ 0x11 = omega arith in
      let high : c / 32 ≡ nr = omega arith in
      by-numbers c (λ e. omega arith) (λ e. omega arith) (λ e. omega arith)
      ∙ rw (ne_eqb (c % 2) 0 odd, eq-eqb (c % 32) 0x11 low, high)

  rnr-read : asked_by (0x15 + nr * 32) ≡ Rnr nr
  unfolding numbered_by
  rnr-read =
      let c : ℕ = 0x15 + nr * 32 in
      let odd : (c % 2 ≡ 0 → ⊥) = λ e. omega arith in
      let rr : (c % 32 ≡ 0x11 → ⊥) = λ e. omega arith in
      let low : c % 32 ≡ 0x15 = omega arith in
      let high : c / 32 ≡ nr = omega arith in
      by-numbers c (λ e. omega arith) (λ e. omega arith) (λ e. omega arith)
      ∙ rw (ne_eqb (c % 2) 0 odd, ne_eqb (c % 32) 0x11 rr, eq-eqb (c % 32) 0x15 low, high)

-- the order with its numbers taken by their remainders, as its control has them
unfoldable turned : Order → Order
turned Xid = Xid
turned Snrm = Snrm
turned Disc = Disc
turned (Info ns nr) = Info (ns % 8) (nr % 8)
turned (Rr nr) = Rr (nr % 8)
turned (Rnr nr) = Rnr (nr % 8)
turned Unknown = Unknown

below : (n : ℕ) → n % 8 < 8
below n = mod-lt n (lit< tt)

some_same : {a b : ℕ} → some a ≡ some b → a ≡ b
some_same e = cc

none-not-some : {a : ℕ} → none ≡ some a → ⊥
none-not-some e = let z : ◌≡◌ {A = ℕ} 0 1 = cc in omega arith

-- an order's control is read as that order, whatever its numbers
reads : (o : Order) (c : ℕ) → control_for o ≡ some c → asked_by c ≡ turned o
unfolding control_for turned asked_by info_of rr_of rnr_of
reads Xid c e = rw (← some_same e)
reads Snrm c e = rw (← some_same e)
reads Disc c e = rw (← some_same e)
reads (Info ns nr) c e = rw (← some_same e) (info-read (ns % 8) (nr % 8) (below ns) (below nr))
reads (Rr nr) c e = rw (← some_same e) (rr-read (nr % 8) (below nr))
reads (Rnr nr) c e = rw (← some_same e) (rnr-read (nr % 8) (below nr))
reads Unknown c e = absurd (none-not-some e)

turned_same : (o : Order) → UpTo7 o → turned o ≡ o
unfolding UpTo7 turned
turned_same Xid h = refl
turned_same Snrm h = refl
turned_same Disc h = refl
turned_same (Info ns nr) h = rw (mod-eq_of_lt h.0, mod-eq_of_lt h.1)
turned_same (Rr nr) h = rw (mod-eq_of_lt h)
turned_same (Rnr nr) h = rw (mod-eq_of_lt h)
turned_same Unknown h = refl

-- an order that has a control is not the unknown one
turned-known : (o : Order) (c : ℕ) → control_for o ≡ some c → turned o ≡ Unknown → ⊥
unfolding control_for turned
turned-known Xid c e u = let z : ◌≡◌ {A = ℕ} 0 1 = cc in omega arith
turned-known Snrm c e u = let z : ◌≡◌ {A = ℕ} 0 1 = cc in omega arith
turned-known Disc c e u = let z : ◌≡◌ {A = ℕ} 0 1 = cc in omega arith
turned-known (Info ns nr) c e u = let z : ◌≡◌ {A = ℕ} 0 1 = cc in omega arith
turned-known (Rr nr) c e u = let z : ◌≡◌ {A = ℕ} 0 1 = cc in omega arith
turned-known (Rnr nr) c e u = let z : ◌≡◌ {A = ℕ} 0 1 = cc in omega arith
turned-known Unknown c e u = none-not-some e

-- the number after a number of 0 to 7 is one too, and it is one more, or 0 after 7
pub next-below : (n : ℕ) → next_of n < 8
unfolding next_of
next-below n = mod-lt (n % 8 + 1) (lit< tt)

pub next-of-seven : next_of 7 ≡ 0
unfolding next_of
next-of-seven = refl

pub next-one-more : (n : ℕ) → n < 7 → next_of n ≡ n + 1
unfolding next_of
next-one-more n h =
    ap (λ (x : ℕ). (x + 1) % 8) (mod-eq_of_lt (omega arith)) ∙ mod-eq_of_lt (omega arith)

-- what an octet with its poll bit set is read as has that octet as its control: one test for all 256 octets
abbrev rightly : ℕ → Order → Bool
rightly c Xid = eqb c 0xBF
rightly c Snrm = eqb c 0x93
rightly c Disc = eqb c 0x53
rightly c (Info ns nr) = eqb c (info_of ns nr) && (ltb ns 8 && ltb nr 8)
rightly c (Rr nr) = eqb c (rr_of nr) && ltb nr 8
rightly c (Rnr nr) = eqb c (rnr_of nr) && ltb nr 8
rightly c Unknown = true

right : ℕ → ℕ → Bool
right c x = cond (polled c) (rightly c (asked_by c)) true

and_T : (a b : Bool) → T (a && b) → T a × T b
and_T true b t = (tt, t)
and_T false b t = absurd t

is_control : (c k : ℕ) → T (eqb c k) → some k ≡ some c
is_control c k t = sym (ap some (eqb→eq c k t))

-- and its numbers are 0 to 7
rightly-named : (c : ℕ) (o : Order) → T (rightly c o) → (o ≡ Unknown) ⊎ ((control_for o ≡ some c) × UpTo7 o)
unfolding control_for UpTo7
rightly-named c Xid t = inr (is_control c 0xBF t, tt)
rightly-named c Snrm t = inr (is_control c 0x93 t, tt)
rightly-named c Disc t = inr (is_control c 0x53 t, tt)
rightly-named c (Info ns nr) t =
    let (k, u) = and_T (eqb c (info_of ns nr)) (ltb ns 8 && ltb nr 8) t in
    let (s, r) = and_T (ltb ns 8) (ltb nr 8) u in
    inr (is_control c (info_of ns nr) k, (ltb→lt ns 8 s, ltb→lt nr 8 r))
rightly-named c (Rr nr) t =
    let (k, r) = and_T (eqb c (rr_of nr)) (ltb nr 8) t in inr (is_control c (rr_of nr) k, ltb→lt nr 8 r)
rightly-named c (Rnr nr) t =
    let (k, r) = and_T (eqb c (rnr_of nr)) (ltb nr 8) t in inr (is_control c (rnr_of nr) k, ltb→lt nr 8 r)
rightly-named c Unknown t = inl refl

-- an octet with its poll bit set is read as the order that has it as its control; as Unknown exactly if none has
module _ (c : ℕ) (h : c < 256) (p : polled c ≡ true) where
  named : T (rightly c (asked_by c))
  unfolding right polled asked_by numbered_by info_of rr_of rnr_of
  named = rw p at (at right (replicate 256 0) tt c (rw length-replicate h))

  pub asked-exactly : (o : Order) → asked_by c ≡ o
      ↔ ((o ≡ Unknown) × ((q : Order) → control_for q ≡ some c → ⊥)) ⊎ ((control_for o ≡ some c) × UpTo7 o)
  asked-exactly o = (there, ⊎_elim none_has (λ w. reads o c w.0 ∙ turned_same o w.1))
    where
      there : asked_by c ≡ o
          → ((o ≡ Unknown) × ((q : Order) → control_for q ≡ some c → ⊥)) ⊎ ((control_for o ≡ some c) × UpTo7 o)
      there e =
          ⊎_elim (λ u. inl (u, λ q k. turned-known q c k (sym (reads q c k) ∙ e ∙ u))) inr
          (rightly-named c o (rw e at named))

      none_has : (o ≡ Unknown) × ((q : Order) → control_for q ≡ some c → ⊥) → asked_by c ≡ o
      none_has w =
          ⊎_elim (λ u. u ∙ sym w.0) (λ k. absurd (w.1 (asked_by c) k.0)) (rightly-named c (asked_by c) named)

-- what a caller learns of what an octet asks
pub asks : {c : ℕ} {r : Order} → r ≡ asked_by c → Asks c r
asks {c} {r} e = record { order = e; control = λ h p. (asked-exactly c h p r).0 (sym e) }

-- the controls that 01 names are read as what they are
pub asked-info : (ns nr : ℕ) → ns < 8 → nr < 8 → asked_by (info_of ns nr) ≡ Info ns nr
unfolding control_for UpTo7
asked-info ns nr hs hr = reads (Info ns nr) (info_of ns nr) refl ∙ turned_same (Info ns nr) (hs, hr)

pub asked-rr : (nr : ℕ) → nr < 8 → asked_by (rr_of nr) ≡ Rr nr
unfolding control_for UpTo7
asked-rr nr hr = reads (Rr nr) (rr_of nr) refl ∙ turned_same (Rr nr) hr

pub asked-rnr : (nr : ℕ) → nr < 8 → asked_by (rnr_of nr) ≡ Rnr nr
unfolding control_for UpTo7
asked-rnr nr hr = reads (Rnr nr) (rnr_of nr) refl ∙ turned_same (Rnr nr) hr

pub info-named : (c ns nr : ℕ) → c < 256 → polled c ≡ true → asked_by c ≡ Info ns nr
    → (c ≡ info_of ns nr) × (ns < 8) × (nr < 8)
unfolding control_for UpTo7
info-named c ns nr h p e =
    ⊎_elim (λ w. absurd (info-known w.0)) (λ w. (sym (some_same w.0), w.1.0, w.1.1))
    ((asked-exactly c h p (Info ns nr)).0 e)
  where
    info-known : Info ns nr ≡ Unknown → ⊥
    info-known u = let z : ◌≡◌ {A = ℕ} 0 1 = cc in omega arith
