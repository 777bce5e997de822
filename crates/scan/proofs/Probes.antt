-- The octets of a probe, as the code puts them together, and the probe's answer. Assumes nothing.
use mathlib.Core.Path.{◌≡◌, refl, sym, ap, ◌∙◌}
use mathlib.Core.Bool.{true, false}
use mathlib.Core.List.{List, [], ◌∷◌, ◌++◌, append-nil}
use Prim.Native.Nat.{ℕ, ◌+◌, min}
use native.Mathlib.Omega.{arith}
use lib.ListN.{length, take, replicate, length-append, length-take, drop_of_length-le}
use lib.Seq.{sets}
use Rattle.octets.specs.Octets.{◌at_start_of◌}
use Rattle.octets.proofs.Stores.{sets-append, sets-start}
use Rattle.identity.specs.Bits.{Bits, ones}
use Rattle.identity.specs.Identity.{width, depth, octets_of, mask_of}
use Rattle.identity.proofs.Words.{length-packed, ones-within}
use Rattle.refusal.specs.Answer.{refuses, answered, handed_out}
use Rattle.scan.specs.Record.{beginning_of}
use Rattle.scan.specs.Scan.{probe_length, probe_of, over, probed}
use Rattle.scan.specs.declared.Scan.{Scan}

-- four runs of octets, one behind the other, that fill a row
four_runs : (o a b c e : List ℕ) (i j k : ℕ) → i ≡ length a → j ≡ i + length b → k ≡ j + length c
    → length o ≡ length (a ++ (b ++ (c ++ e))) → sets (sets (sets (sets o 0 a) i b) j c) k e ≡ a ++ (b ++ (c ++ e))
unfolding ◌at_start_of◌
four_runs o a b c e i j k x y z n =
    let all : List ℕ = a ++ (b ++ (c ++ e)) in
    let at : 0 + length a ≡ i = omega arith in
    let one : sets o 0 all ≡ sets (sets o 0 a) i (b ++ (c ++ e)) =
    sets-append a (b ++ (c ++ e)) o 0 ∙ ap (λ (m : ℕ). sets (sets o 0 a) m (b ++ (c ++ e))) at in
    let two : sets (sets o 0 a) i (b ++ (c ++ e)) ≡ sets (sets (sets o 0 a) i b) j (c ++ e) =
    sets-append b (c ++ e) (sets o 0 a) i ∙ ap (λ (m : ℕ). sets (sets (sets o 0 a) i b) m (c ++ e)) (sym y) in
    let three : sets (sets (sets o 0 a) i b) j (c ++ e) ≡ sets (sets (sets (sets o 0 a) i b) j c) k e =
    sets-append c e (sets (sets o 0 a) i b) j
    ∙ ap (λ (m : ℕ). sets (sets (sets (sets o 0 a) i b) j c) m e) (sym z) in
    sym (one ∙ two ∙ three) ∙ sets-start all o (omega arith)
    ∙ rw (← n, drop_of_length-le o {i = length o} (omega arith), append-nil all)

-- address, control, the XID header, and the first parameter's identifier and length
abbrev head : List ℕ
head = 0xFF ∷ 0xBF ∷ 0x81 ∷ 0xF0 ∷ 0x2A ∷ 1 ∷ width ∷ []

pub length-probe : (p : Bits) → length (probe_of p) ≡ probe_length
unfolding probe_of
length-probe p =
    omega (
      arith,
      length-packed width p,
      length-packed width (ones (length p)),
      length-append (octets_of p) (3 ∷ width ∷ mask_of p),
    )

-- the octets of the probe, as they are put into a row of zeros
probe-is : (row : Bits) (n : ℕ) → length row ≡ depth
    → sets (sets (sets (sets (replicate probe_length 0) 0 head) 7 (octets_of (take n row))) 26 (3 ∷ width ∷ [])) 28
    (octets_of (ones n))
    ≡ probe_of (take n row)
unfolding probe_of
probe-is row n e =
    let v : List ℕ = octets_of (take n row) in
    let t : List ℕ = 3 ∷ width ∷ [] in
    let m : List ℕ = octets_of (ones n) in
    let size : probe_length ≡ length (head ++ (v ++ (t ++ m))) =
    omega (arith, length-packed width (take n row), length-packed width (ones n), length-append v (t ++ m)) in
    let long : length (take n row) ≡ min n depth = length-take n row ∙ ap (min n) e in
    four_runs (replicate probe_length 0) head v t m 7 26 28 refl (omega (arith, length-packed width (take n row))) refl
    size
    ∙ ap (λ (x : List ℕ). head ++ (v ++ (t ++ x)))
    (sym (ap (λ (k : ℕ). octets_of (ones k)) long ∙ ones-within width n))

pub probe-built : (row : Bits) (n : ℕ) {v m f g i j : List ℕ} → length row ≡ depth
    → v ≡ octets_of (take n row) → m ≡ octets_of (ones n)
    → f ≡ sets (replicate probe_length 0) 0 head → g ≡ sets f 7 v → i ≡ sets g 26 (3 ∷ width ∷ []) → j ≡ sets i 28 m
    → j ≡ probe_of (take n row)
probe-built row n e a b x y z w = w ∙ rw (z, y, x, a, b) (probe-is row n e)

module _ (s : Scan) (lent : ℕ) where
  pub probed-over : true ≡ over s → probed s lent ≡ refuses 7
  unfolding probed answered
  probed-over e = rw (← e)

  pub probed-open : {b : List ℕ} → over s ≡ false → b ≡ probe_of (beginning_of s) → handed_out b lent ≡ probed s lent
  unfolding probed handed_out answered
  probed-open e g = rw (e, g)
