-- Which payloads are negotiations, both ways, and the frame limit that is agreed, in 02's words and numbers: by the
-- smaller length asked, never above it but for the floor, 78 to 260. For octets of any content. Assumes nothing.
use mathlib.Core.Path.{◌≡◌, refl, sym, ap, ◌∙◌}
use mathlib.Core.Bool.{Bool, true, false, cond, ◌&&◌}
use mathlib.Core.List.{List, [], ◌∷◌}
use mathlib.Core.Logic.{◌↔◌, ◌⊎◌, inl, inr, ⊎_elim}
use mathlib.Core.Option.{Option, none, some}
use Prim.Native.Nat.{ℕ, ◌+◌, ◌/◌, ◌≤◌, min, max}
use native.Mathlib.Omega.{arith}
use borrow.Author.Tests.{eqb-true, leb-true, le-leb}
use lib.Dec.{eqb, leb}
use Rattle.octets.proofs.Words.{true-not-false}
use Rattle.limits.specs.Limits.{payload_most, is_limit}
use Rattle.limits.proofs.Exactly.{is-limit-exactly}
use Rattle.params.specs.declared.Identifier.{Identifier}
use Rattle.params.specs.Field.{Param, right_length, WellFormed, params_of, value_for}
use Rattle.params.proofs.Exact.{params-exactly, one-reading}
use Rattle.params.proofs.Kept.{both_of}
use Rattle.control.specs.declared.AskedFor.{AskedFor}
use Rattle.negotiation.specs.declared.Agreed.{Agreed}
use Rattle.negotiation.specs.Negotiation.{negotiating, bits_in, smaller_of, limit_for, limit_asked, agreed_limit}
use Rattle.negotiation.specs.Negotiation.{asked_in, agrees_on, no_offer, offered, offer_of}

-- ---- which payloads

-- a row of the table is that of n, and allows k octets
abbrev SomeRow : List Identifier → ℕ → ℕ → Type 0
SomeRow [] n k = ⊥
SomeRow (r ∷ t) n k = ((n ≡ r.id) × (r.least ≤ k) × (k ≤ r.most)) ⊎ SomeRow t n k

some-row : (t : List Identifier) (n k : ℕ) → right_length t n k ≡ true → SomeRow t n k
unfolding right_length
some-row [] n k e = absurd (true-not-false (sym e))
some-row (r ∷ t) n k e = go (some-row t n k) (eqb r.id n) refl e
  where
    go : (right_length t n k ≡ true → SomeRow t n k) → (b : Bool) → eqb r.id n ≡ b
        → cond b (leb r.least k && leb k r.most) (right_length t n k) ≡ true → SomeRow (r ∷ t) n k
    go more true q f =
        let (low, high) = both_of (leb r.least k) (leb k r.most) f in
        inl (sym (eqb-true r.id n q), leb-true _ _ low, leb-true _ _ high)
    go more false q f = inr (more f)

-- "5 and 6, the I-field length in bits, .. 1 to 4 octets ..; 7 and 8, the windows, 1 octet"
pub negotiating-exactly : (n k : ℕ) → right_length negotiating.table n k ≡ true
    ↔ (((n ≡ 5) ⊎ (n ≡ 6)) × (1 ≤ k) × (k ≤ 4)) ⊎ (((n ≡ 7) ⊎ (n ≡ 8)) × (k ≡ 1))
unfolding right_length
negotiating-exactly n k = (λ e. there (some-row negotiating.table n k e), back)
  where
    there : SomeRow negotiating.table n k
        → (((n ≡ 5) ⊎ (n ≡ 6)) × (1 ≤ k) × (k ≤ 4)) ⊎ (((n ≡ 7) ⊎ (n ≡ 8)) × (k ≡ 1))
    there (inl (q, low, high)) = inl (inl q, low, high)
    there (inr (inl (q, low, high))) = inl (inr q, low, high)
    there (inr (inr (inl (q, low, high)))) = inr (inl q, omega arith)
    there (inr (inr (inr (inl (q, low, high))))) = inr (inr q, omega arith)
    there (inr (inr (inr (inr (inl (q, low, high)))))) = let no : ⊥ = omega arith in absurd no
    there (inr (inr (inr (inr (inr none_left))))) = absurd none_left

    back : (((n ≡ 5) ⊎ (n ≡ 6)) × (1 ≤ k) × (k ≤ 4)) ⊎ (((n ≡ 7) ⊎ (n ≡ 8)) × (k ≡ 1))
        → right_length negotiating.table n k ≡ true
    back (inl (inl five, low, high)) = rw (five, le-leb 1 k low, le-leb k 4 high)
    back (inl (inr six, low, high)) = rw (six, le-leb 1 k low, le-leb k 4 high)
    back (inr (inl seven, one)) = rw (seven, one)
    back (inr (inr eight, one)) = rw (eight, one)

-- a payload that is no negotiation agrees on nothing
not-agreed : {N : ℕ} {a : AskedFor} → no_offer ≡ agrees_on N a → ⊥
not-agreed e = let z : ◌≡◌ {A = ℕ} 0 1 = cc in omega arith

-- and one agreement is on one limit, and says what was asked
agreed-is : {L N : ℕ} {a b : AskedFor} → agrees_on L a ≡ agrees_on N b → (L ≡ N) × (a ≡ b)
agreed-is {L} {N} {a} {b} e =
    let same : ◌≡◌ {A = Agreed} (record { limit = L; asked = a }) (record { limit = N; asked = b }) = cc in
    (ap (λ (x : Agreed). x.limit) same, ap (λ (x : Agreed). x.asked) same)

module _ (N : ℕ) (m : List ℕ) where
  pub offer-agreed : (ps : List Param) → WellFormed negotiating m ps
      → offer_of N m ≡ agrees_on (agreed_limit N ps) (asked_in ps)
  unfolding offer_of offered
  offer-agreed ps w = rw ((params-exactly negotiating m ps).1 w)

  formed-or-not : ((ps : List Param) × WellFormed negotiating m ps) ⊎ (offer_of N m ≡ no_offer)
  unfolding offer_of offered
  formed-or-not = go (params_of negotiating m) refl
    where
      go : (x : Option (List Param)) → params_of negotiating m ≡ x
          → ((ps : List Param) × WellFormed negotiating m ps) ⊎ (offer_of N m ≡ no_offer)
      go none e = inr (rw e)
      go (some ps) e = inl (ps, (params-exactly negotiating m ps).0 e)

  pub offer-malformed : offer_of N m ≡ no_offer ↔ ((ps : List Param) → WellFormed negotiating m ps → ⊥)
  offer-malformed = (
    λ e ps w. not-agreed (sym e ∙ offer-agreed ps w),
    λ h. ⊎_elim (λ (ps, w). absurd (h ps w)) (λ e. e) formed-or-not,
  )

  -- an agreement comes of a well-formed payload alone, by its parameters, which are read in one way
  pub offer-exactly : (L : ℕ) (a : AskedFor) → offer_of N m ≡ agrees_on L a
      ↔ ((ps : List Param) × WellFormed negotiating m ps × (L ≡ agreed_limit N ps) × (a ≡ asked_in ps)
      × ((qs : List Param) → WellFormed negotiating m qs → ps ≡ qs))
  offer-exactly L a = (there, λ (ps, w, l, b, one). offer-agreed ps w ∙ rw (l, b))
    where
      there : offer_of N m ≡ agrees_on L a
          → (ps : List Param) × WellFormed negotiating m ps × (L ≡ agreed_limit N ps) × (a ≡ asked_in ps)
          × ((qs : List Param) → WellFormed negotiating m qs → ps ≡ qs)
      there e =
          ⊎_elim (λ (ps, w).
          let (l, b) = agreed-is (sym e ∙ offer-agreed ps w) in
          (ps, w, l, b, λ qs v. one-reading negotiating m ps qs w v))
          (λ n. absurd (not-agreed (sym n ∙ e))) formed-or-not

-- ---- the limit

module _ (N : ℕ) (ps : List Param) where
  -- "none asked keeps N"
  pub limit-kept : value_for 5 ps ≡ none → value_for 6 ps ≡ none → agreed_limit N ps ≡ N
  unfolding agreed_limit limit_asked smaller_of
  limit-kept p q = rw (p, q)

  -- "N - 4 is the whole octets in the smaller I-field length asked", 74 to 256
  pub limit-agreed : (b : ℕ) → smaller_of (value_for 5 ps) (value_for 6 ps) ≡ some b
      → agreed_limit N ps ≡ max 74 (min 256 (b / 8)) + 4
  unfolding agreed_limit limit_asked limit_for
  limit-agreed b e = rw e

  -- which is the one that is asked, or the smaller of two
  module _ {v : List ℕ} where
    pub limit-sent : value_for 5 ps ≡ some v → value_for 6 ps ≡ none
        → agreed_limit N ps ≡ max 74 (min 256 (bits_in v / 8)) + 4
    unfolding smaller_of
    limit-sent p q = limit-agreed (bits_in v) (rw (p, q))

    pub limit-received : value_for 5 ps ≡ none → value_for 6 ps ≡ some v
        → agreed_limit N ps ≡ max 74 (min 256 (bits_in v / 8)) + 4
    unfolding smaller_of
    limit-received p q = limit-agreed (bits_in v) (rw (p, q))

    pub limit-smaller : {w : List ℕ} → value_for 5 ps ≡ some v → value_for 6 ps ≡ some w
        → agreed_limit N ps ≡ max 74 (min 256 (min (bits_in v) (bits_in w) / 8)) + 4
    unfolding smaller_of
    limit-smaller {w} p q = limit-agreed (min (bits_in v) (bits_in w)) (rw (p, q))

  -- 78 to 260
  pub agreed-least : is_limit N ≡ true → is_limit (agreed_limit N ps) ≡ true
  unfolding agreed_limit limit_asked limit_for
  agreed-least ok = go (smaller_of (value_for 5 ps) (value_for 6 ps))
    where
      go : (x : Option ℕ) → is_limit (limit_asked N x) ≡ true
      go none = ok
      go (some b) = (is-limit-exactly (limit_for b)).1 (omega arith, omega arith)

  -- "the I-field length answered is never more than the smaller one asked, but for the floor of 74 octets"
  pub never-above : {v : List ℕ} → (value_for 5 ps ≡ some v) ⊎ (value_for 6 ps ≡ some v)
      → payload_most (agreed_limit N ps) ≤ max 74 (bits_in v / 8)
  unfolding smaller_of
  never-above {v} s =
      let (b, e, h) = ⊎_elim (sent (value_for 5 ps) (value_for 6 ps)) (received (value_for 5 ps) (value_for 6 ps)) s in
      rw (limit-agreed b e) (omega arith)
    where
      Asks : Option (List ℕ) → Option (List ℕ) → Type 0
      Asks x y = (b : ℕ) × (smaller_of x y ≡ some b) × (b ≤ bits_in v)

      sent : (x y : Option (List ℕ)) → x ≡ some v → Asks x y
      sent x none e = (bits_in v, rw e, omega arith)
      sent x (some w) e = (min (bits_in v) (bits_in w), rw e, omega arith)

      received : (x y : Option (List ℕ)) → y ≡ some v → Asks x y
      received none y e = (bits_in v, rw e, omega arith)
      received (some w) y e = (min (bits_in w) (bits_in v), rw e, omega arith)
