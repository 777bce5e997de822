-- The register through a list of octets: one more, the end, two lists, and that it stays below 2 ^ 16.
-- Assumes nothing.
use mathlib.Core.Path.{◌≡◌, refl, sym, ap, ◌∙◌}
use mathlib.Core.List.{List, [], ◌∷◌, ◌++◌}
use Prim.Native.Nat.{ℕ, zero, suc, ◌+◌, ◌*◌, ◌/◌, ◌%◌, ◌^◌, ◌<◌, ◌≤◌}
use native.Mathlib.Omega.{arith}
use lib.Bits.{bit_xor, xor_lt, xor_comm, xor_shifted}
use lib.Dec.{lit<}
use lib.ListN.{length, get_or, drop, drop_of_length-le}
use Rattle.std.specs.Simd.{first_chunks}
use Rattle.octets.proofs.Chunks.{chunk-left}
use Rattle.octets.specs.Octets.{Octets, pair_of}
use Rattle.octets.proofs.Rest.{rest}
use Rattle.fcs.specs.Check.{polynomial, bit_step, bit_steps, octet_step, register_after, check_of}
use Rattle.fcs.proofs.Division.{comes_down}
use Rattle.fcs.proofs.Exclusive.{xor_assoc}

-- two octets as one number: the second waits above the first, and comes down with it
pub two-on : (r a b : ℕ) → a < 256 → bit_steps 8 (bit_xor r (pair_of a b)) ≡ bit_xor (bit_steps 8 (bit_xor r a)) b
two-on r a b h =
    let both : pair_of a b ≡ b * 2 ^ 8 + a = omega arith in
    let above : bit_xor r (pair_of a b) ≡ bit_xor (b * 2 ^ 8) (bit_xor r a) =
    ap (bit_xor r) (both ∙ sym (xor_shifted b 8 a h))
    ∙ sym (xor_assoc r (b * 2 ^ 8) a)
    ∙ ap (λ (x : ℕ). bit_xor x a) (xor_comm r (b * 2 ^ 8))
    ∙ xor_assoc (b * 2 ^ 8) r a in
    ap (bit_steps 8) above ∙ comes_down 8 b (bit_xor r a) ∙ xor_comm b (bit_steps 8 (bit_xor r a))

pub register-both : (r a b : ℕ) {p q t : ℕ} → a < 256 → p ≡ pair_of a b → q ≡ bit_steps 8 (bit_xor r p) → t ≡ bit_steps 8 q
    → t ≡ register_after r (a ∷ b ∷ [])
unfolding register_after octet_step
register-both r a b h e f g = g ∙ ap (bit_steps 8) (f ∙ rw e (two-on r a b h))

-- a loop that goes through s by i: two octets more, the last one, and the end
module _ (s : List ℕ) (i r : ℕ) {w : ℕ} (v : register_after r (drop i s) ≡ w) where
  pub register-two : (j k : ℕ) {t : ℕ} → j ≡ i + 1 → k ≡ i + 2 → j < length s
      → t ≡ register_after r (get_or s i 0 ∷ get_or s j 0 ∷ []) → register_after t (drop k s) ≡ w
  unfolding register_after
  register-two j k d e h f =
      let n : i + 1 + 1 ≡ i + 2 = omega arith in
      let g : i + 1 < length s = omega arith in
      let second : drop (i + 1) s ≡ get_or s (i + 1) 0 ∷ drop (i + 2) s = rw n at (rest s (i + 1) g) in
      let both : drop i s ≡ get_or s i 0 ∷ get_or s (i + 1) 0 ∷ drop (i + 2) s =
      rest s i (omega arith) ∙ ap (λ (l : List ℕ). get_or s i 0 ∷ l) second in
      rw (f, d, e) (sym (ap (register_after r) both) ∙ v)

  pub register-last : {t : ℕ} → i < length s → length s ≤ i + 1 → t ≡ bit_steps 8 (bit_xor r (get_or s i 0)) → t ≡ w
  unfolding register_after octet_step
  register-last h k e =
      let one : drop i s ≡ get_or s i 0 ∷ [] = rest s i h ∙ ap (λ (l : List ℕ). get_or s i 0 ∷ l) (drop_of_length-le s k) in
      e ∙ sym (ap (register_after r) one) ∙ v

  pub register-done : length s ≤ i → r ≡ w
  unfolding register_after
  register-done h = sym (ap (register_after r) (drop_of_length-le s h)) ∙ v

-- eight octets more
pub register-eight : (s : List ℕ) (i r : ℕ) {w a b c d : ℕ} → register_after r (drop i s) ≡ w → i + 7 < length s
    → a ≡ register_after r (get_or s i 0 ∷ get_or s (i + 1) 0 ∷ [])
    → b ≡ register_after a (get_or s (i + 2) 0 ∷ get_or s (i + 3) 0 ∷ [])
    → c ≡ register_after b (get_or s (i + 4) 0 ∷ get_or s (i + 5) 0 ∷ [])
    → d ≡ register_after c (get_or s (i + 6) 0 ∷ get_or s (i + 7) 0 ∷ []) → register_after d (drop (i + 8) s) ≡ w
register-eight s i r {a = a} {b = b} {c = c} v h e f g k =
    let two = register-two s i r v (i + 1) (i + 2) refl refl (omega arith) e in
    let four = register-two s (i + 2) a two (i + 3) (i + 4) (omega arith) (omega arith) (omega arith) f in
    let six = register-two s (i + 4) b four (i + 5) (i + 6) (omega arith) (omega arith) (omega arith) g in
    register-two s (i + 6) c six (i + 7) (i + 8) (omega arith) (omega arith) (omega arith) k

-- the octets of a chunk of two, and those of one of eight
pub register-pair : (s : List ℕ) (r : ℕ) {t : ℕ} → length s ≡ 2 → t ≡ register_after r (get_or s 0 0 ∷ get_or s 1 0 ∷ [])
    → t ≡ register_after r s
register-pair s r {t} h e = register-done s 2 t (register-two s 0 r refl 1 2 refl refl (omega arith) e) (omega arith)

pub register-whole : (s : List ℕ) (r : ℕ) {a b c d : ℕ} → length s ≡ 8
    → a ≡ register_after r (get_or s 0 0 ∷ get_or s 1 0 ∷ []) → b ≡ register_after a (get_or s 2 0 ∷ get_or s 3 0 ∷ [])
    → c ≡ register_after b (get_or s 4 0 ∷ get_or s 5 0 ∷ []) → d ≡ register_after c (get_or s 6 0 ∷ get_or s 7 0 ∷ [])
    → d ≡ register_after r s
register-whole s r {d = d} h e f g k = register-done s 8 d (register-eight s 0 r refl (omega arith) e f g k) (omega arith)

-- octets in two runs: the second goes on from the register of the first
pub register-append : (s t : List ℕ) (r : ℕ) → register_after r (s ++ t) ≡ register_after (register_after r s) t
unfolding register_after
register-append [] t r = refl
register-append (x ∷ xs) t r = register-append xs t (octet_step r x)

-- a loop that goes through s by chunks of n octets: one chunk more
pub register-chunk : (n i r : ℕ) (s : List ℕ) {k : ℕ} {p : List (List ℕ)} {w t : ℕ} → p ≡ first_chunks n k s → length p ≡ k
    → i < length p → register_after r (drop (i * n) s) ≡ w → t ≡ register_after r (get_or p i [])
    → register_after t (drop ((i + 1) * n) s) ≡ w
register-chunk n i r s {p = p} e f h v g =
    rw g (sym (register-append (get_or p i []) (drop ((i + 1) * n) s) r) ∙ ap (register_after r) (sym (chunk-left n i s e f h)) ∙ v)

pub step-lt : (x : ℕ) → x < 2 ^ 16 → bit_step x < 2 ^ 16
unfolding bit_step
step-lt x h = xor_lt 16 (x / 2) (x % 2 * polynomial) (omega arith) (omega arith)

steps-lt : (k x : ℕ) → x < 2 ^ 16 → bit_steps k x < 2 ^ 16
unfolding bit_steps
steps-lt zero x h = h
steps-lt (suc k) x h = steps-lt k (bit_step x) (step-lt x h)

pub register-lt : (s : List ℕ) (r : ℕ) → r < 2 ^ 16 → Octets s → register_after r s < 2 ^ 16
unfolding register_after octet_step
register-lt [] r h o = h
register-lt (x ∷ xs) r h o =
    register-lt xs (octet_step r x) (steps-lt 8 (bit_xor r x) (xor_lt 16 r x h (omega (arith, o.0)))) o.1

pub check-lt : (s : List ℕ) → Octets s → check_of s < 2 ^ 16
unfolding check_of
check-lt s o = xor_lt 16 (register_after 0xFFFF s) 0xFFFF (register-lt s 0xFFFF (lit< tt) o) (lit< tt)
