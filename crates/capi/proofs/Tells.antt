-- The number that crosses tells the answer: below 0x10000 how many octets, which are at their place, and the rest of the output
-- is as it was; from there on the refusal, and all of it is. Assumes nothing.
use mathlib.Core.Path.{◌≡◌}
use mathlib.Core.List.{List, ◌∷◌}
use Prim.Native.Nat.{ℕ, ◌-◌, ◌<◌, ◌≤◌}
use native.Mathlib.Omega.{arith}
use lib.ListN.{length, take, length-take}
use Rattle.octets.specs.Octets.{◌at_start_of◌}
use Rattle.refusal.specs.Answer.{Answer, gives, refuses}
use Rattle.limits.proofs.Exactly.{is-limit-exactly}
use Rattle.frame.specs.Line.{plain}
use Rattle.frame.specs.Decode.{body, decoded}
use Rattle.frame.specs.Write.{written}
use Rattle.frame.proofs.Exact.{decode-frame, write-line}
use Rattle.frame.proofs.Lengths.{line-short}
use Rattle.capi.specs.Crossing.{refusals, Crosses}
use Rattle.capi.proofs.Crosses.{low_told, high-told}

-- what the number r and the output o', which was o, tell of the answer x
abbrev pub Tells : Answer (List ℕ) → List ℕ → ℕ → List ℕ → Type 0
Tells x o r o' =
    (r < refusals → (x ≡ gives (take r o')) × (r ≡ length (take r o')) × (o' ≡ take r o' at_start_of o))
    × (refusals ≤ r → (x ≡ refuses (r - refusals)) × (o' ≡ o))

body-short : (d : List ℕ) → length (body d) ≤ length d
unfolding body
body-short d = simp length-take (omega arith)

-- for every number N: octets are given for a frame limit alone, and its lines stay far below the refusals' base
module _ (N : ℕ) where
  module _ (src : List ℕ) (room : ℕ) where
    decoded-short : (b : List ℕ) → decoded N src room ≡ gives b → length b < refusals
    decoded-short b e =
        let f = (decode-frame N src room b).0 e in
        let most = (is-limit-exactly N).0 f.0 in
        let few = f.1.2 in
        let all = body-short (plain src) in
        rw (← f.4) (omega arith)

    pub decode-tells : {o o' : List ℕ} {r : ℕ}
        → Crosses (decoded N src room) o r o' → Tells (decoded N src room) o r o'
    decode-tells c = (low_told _ c, high-told _ decoded-short c)

  module _ (address control : ℕ) (payload : List ℕ) (room : ℕ) where
    written-short : (l : List ℕ) → written N address control payload room ≡ gives l → length l < refusals
    written-short l e =
        let f = (write-line N address control payload room l).0 e in
        let most = (is-limit-exactly N).0 f.0 in
        let few = line-short (address ∷ control ∷ payload) in
        rw (← f.3) (omega arith)

    pub write-tells : {o o' : List ℕ} {r : ℕ}
        → Crosses (written N address control payload room) o r o'
        → Tells (written N address control payload room) o r o'
    write-tells c = (low_told _ c, high-told _ written-short c)
