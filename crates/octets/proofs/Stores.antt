-- Octets stored from an index on: one after the other, past the end, at the start. Assumes nothing.
use mathlib.Core.Path.{◌≡◌, refl, sym, ap, ◌∙◌}
use mathlib.Core.Bool.{Bool, true, false}
use mathlib.Core.List.{List, [], ◌∷◌, ◌++◌}
use Prim.Native.Nat.{ℕ, suc, ◌+◌, ◌-◌, ◌<◌, ◌≤◌, min}
use native.Mathlib.Nat.{add-zero, add-suc, suc-add, zero-add}
use native.Mathlib.Omega.{arith}
use borrow.Author.Tests.{leb-true, leb-false}
use borrow.Rule.Slice.PartMut.{put_mid}
use lib.Dec.{leb}
use lib.ListN.{length, set, take, drop, get_or, length-take, drop_of_length-le}
use lib.Seq.{sets, sets-eq, length-sets, set_out, take_all, take-append_seam}
use Rattle.octets.specs.Octets.{◌at_start_of◌}
use Rattle.octets.proofs.Rest.{rest}
use Rattle.octets.proofs.Takes.{take-room}
use Rattle.std.proofs.Common.{append_assoc}
use Rattle.std.proofs.lemmas.List.{take-append-drop}
use Rattle.std.proofs.lemmas.List.Edits.{paste_all}
use Rattle.std.proofs.lemmas.Slice.{put_mid-paste}

-- two runs of octets, one behind the other
pub sets-append : (vs ws o : List ℕ) (k : ℕ) → sets o k (vs ++ ws) ≡ sets (sets o k vs) (k + length vs) ws
sets-append [] ws o k = rw add-zero
sets-append (v ∷ vs) ws o k = rw (add-suc, ← suc-add) (sets-append vs ws (set o k v) (suc k))

-- nothing is stored past the end
pub sets-past : (xs o : List ℕ) (k : ℕ) → length o ≤ k → sets o k xs ≡ o
sets-past [] o k h = refl
sets-past (x ∷ xs) o k h = rw (set_out o k x h) (sets-past xs o (suc k) (omega arith))

-- a run that goes through s by i, from the place at on: one octet more
pub sets_more : (o s : List ℕ) (at i : ℕ) {w : List ℕ} → i < length s
    → sets o (at + i) (drop i s) ≡ w → sets (set o (at + i) (get_or s i 0)) (at + (i + 1)) (drop (i + 1) s) ≡ w
sets_more o s at i h e =
    let n : at + (i + 1) ≡ suc (at + i) = omega arith in
    rw n (sym (ap (sets o (at + i)) (rest s i h)) ∙ e)

-- the end of such a run: nothing is left of s, or its place is past the end
pub sets-done : (o s : List ℕ) (at i : ℕ) {w : List ℕ} → min (length s) (length o - at) ≤ i
    → sets o (at + i) (drop i s) ≡ w → o ≡ w
sets-done o s at i {w} h e = go (leb (length s) i) refl
  where
    go : (t : Bool) → leb (length s) i ≡ t → o ≡ w
    go true t = sym (ap (sets o (at + i)) (drop_of_length-le s (leb-true (length s) i t))) ∙ e
    go false t = sym (sets-past (drop i s) o (at + i) (omega (arith, leb-false (length s) i t))) ∙ e

-- what is past the end need not be stored
sets-cut : (xs o : List ℕ) (k m : ℕ) → length o ≤ k + m → sets o k xs ≡ sets o k (take m xs)
sets-cut xs o k m h = go (leb (length xs) m) refl
  where
    go : (t : Bool) → leb (length xs) m ≡ t → sets o k xs ≡ sets o k (take m xs)
    go true t = ap (sets o k) (sym (take_all m xs (leb-true (length xs) m t)))
    go false t =
        let n : length (take m xs) ≡ m = omega (arith, length-take m xs, leb-false (length xs) m t) in
        ap (sets o k) (sym (take-append-drop m xs))
        ∙ sets-append (take m xs) (drop m xs) o k
        ∙ sets-past (drop m xs) (sets o k (take m xs)) (k + length (take m xs)) (omega (arith, length-sets o k (take m xs)))

-- a part that is written as a whole
sets-part : (o ys : List ℕ) (k n : ℕ) → n ≡ length ys → k + length ys ≤ length o → put_mid k n o ys ≡ sets o k ys
sets-part o ys k n e h =
    put_mid-paste k n o ys ys n refl refl e
    ∙ paste_all o k ys n e
    ∙ rw e (sym (append_assoc (take k o) ys (drop (k + length ys) o)) ∙ sym (sets-eq ys o k h))

-- the part of o from k on that has room for the octets of s, as many as fit, holds those
pub sets-within : (o s : List ℕ) (at : ℕ) {k n : ℕ} {ys : List ℕ} → k ≡ min at (length o) → n ≡ min (length s) (length o - k)
    → ys ≡ take n s → put_mid k (k + n - k) o ys ≡ sets o at s
sets-within o s at {k} {n} {ys} e f g = go (leb at (length o)) refl
  where
    size : n ≡ length ys
    size = rw g (omega (arith, f, length-take n s))

    whole : put_mid k (k + n - k) o ys ≡ sets o k ys
    whole =
        let m : k + n - k ≡ n = omega arith in
        rw m (sets-part o ys k n size (omega (arith, e, f, size)))

    go : (t : Bool) → leb at (length o) ≡ t → put_mid k (k + n - k) o ys ≡ sets o at s
    go true t =
        let same : k ≡ at = omega (arith, e, leb-true at (length o) t) in
        let fit : ys ≡ take (length o - at) s = g ∙ rw (f, same) (take-room s (length o - at)) in
        whole ∙ rw (same, fit) (sym (sets-cut s o at (length o - at) (omega arith)))
    go false t =
        let past : length o < at = leb-false at (length o) t in
        whole
        ∙ sets-past ys o k (omega (arith, e))
        ∙ sym (sets-past s o at (omega arith))

-- stored from the start, and all inside: at the start, the rest unchanged
pub sets-start : (b o : List ℕ) → length b ≤ length o → sets o 0 b ≡ b at_start_of o
unfolding ◌at_start_of◌
sets-start b o h = sets-eq b o 0 (rw zero-add h) ∙ rw zero-add

pub take-start : (b o : List ℕ) → take (length b) (b at_start_of o) ≡ b
unfolding ◌at_start_of◌
take-start b o = take-append_seam b (drop (length b) o)

pub take-stored : (b o : List ℕ) → length b ≤ length o → take (length b) (sets o 0 b) ≡ b
take-stored b o h = rw (sets-start b o h) (take-start b o)
