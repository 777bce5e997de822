-- The frame limit N: the most octets of address, control, payload and check. 02 (iv): "a number of the link, 78 to 260".
--   limit_least  == 78: 01's limit, the least, and that of a link on which nothing was negotiated;
--                   limit_most == 260: the largest
--   is_limit N   == N is a frame limit; Limited N == the same, in words
--   around       == 4: the octets around a payload
--   frame_most N, payload_most N, line_most N == what follows from it: the most octets without the check (76 at 78), of
--                   a payload to be written (74), and of a line with its flags (158)
-- Assumes nothing.
use Rattle.std.specs.Prelude.{Bool, ◌&&◌, ℕ, ◌+◌, ◌-◌, ◌*◌, ◌≤◌, leb}

-- 01: "decoded octets more than 78"
abbrev pub limit_least : ℕ
limit_least = 78

abbrev pub limit_most : ℕ
limit_most = 260

-- "78 to 260"
unfoldable pub is_limit : ℕ → Bool
is_limit N = leb limit_least N && leb N limit_most

abbrev pub Limited : ℕ → Type 0
Limited N = (78 ≤ N) × (N ≤ 260)

-- "76 and 158 become N - 2 and 2N + 2": without the two check octets; each octet escaped, and two flags
abbrev pub frame_most : ℕ → ℕ
frame_most N = N - 2

-- address, control and two of the check
abbrev pub around : ℕ
around = 4

-- "9 more than N - 4"
abbrev pub payload_most : ℕ → ℕ
payload_most N = N - around

abbrev pub line_most : ℕ → ℕ
line_most N = 2 * N + 2
