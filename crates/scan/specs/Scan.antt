-- The scanner's three calls: a new scan, the probe that is next, an answer reported.
--   fresh limit      == a scan that has asked nothing
--   probe_of p       == the probe of the beginning p: address, control and payload; probe_length == their number, 47
--   over s           == the row of the number 7: the record s takes no probe and no answer
--   probed s lent    == what a probe asked of s gives, into a lent output of so many octets
--   reported s heard == what an answer reported to s gives: the scan one step on
--   reported_all s answers == the scan s after the answers, reported one after the other
--   driven heard n s == the scan s after n answers, each as `heard` says of the beginning that is asked
-- Assumes nothing.
use Rattle.std.specs.Prelude.{Bool, true, false, not, ◌||◌, List, [], ◌∷◌, ◌++◌, ℕ, zero, suc, ◌*◌, ltb, replicate}
use Rattle.identity.specs.Bits.{Bits}
use Rattle.identity.specs.Identity.{width, depth, octets_of, mask_of}
use Rattle.refusal.specs.Answer.{Answer, ◌when◌, answered, shorter, state_after}
use Rattle.walk.specs.Machine.{step}
use Rattle.scan.specs.Record.{list_most, beginning_of, walk_of, record_of}
use Rattle.scan.specs.Steps.{state_at}
use Rattle.scan.specs.declared.Scan.{Scan}
use Rattle.scan.specs.declared.State.{State}
use Rattle.scan.specs.declared.State.TheVariants.{Asking, Complete, Doubtful, Limit, Full}

-- 01: "The first probe is the empty beginning", and a limit of 0 is "limit" with 0 probes
unfoldable pub fresh : ℕ → Scan
fresh limit =
    record {
      limit = limit;
      count = 0;
      listed = 0;
      list = replicate (width * list_most) 0;
      bits = 0;
      beginning = replicate depth false;
      state = state_at 0 limit false false;
    }

-- 01: "the XID scan from 0xFF with 19-octet values: a beginning in 1, ones over it in 3, zeros elsewhere;
-- length field 0x2A"
unfoldable pub probe_of : Bits → List ℕ
probe_of p = (0xFF ∷ 0xBF ∷ 0x81 ∷ 0xF0 ∷ 0x2A ∷ 1 ∷ width ∷ []) ++ (octets_of p ++ ((3 ∷ width ∷ []) ++ mask_of p))

-- 01: "47 octets unescaped" (`length-probe` of proofs/Probes)
abbrev pub probe_length : ℕ
probe_length = 47

unfoldable pub ended : State → Bool
ended (Asking quiet doubt) = false
ended Complete = true
ended Doubtful = true
ended Limit = true
ended Full = true

-- 01: "a scan that has ended or a record whose count isn't below its limit, whose list passes 32 or whose beginning
-- passes 152 bits"
unfoldable pub over : Scan → Bool
over s = ended s.state || (not (ltb s.count s.limit) || (ltb list_most s.listed || ltb depth s.bits))

-- 01: "the scanner 7, then 5"
unfoldable pub probed : Scan → ℕ → Answer (List ℕ)
probed s lent =
    let b = probe_of (beginning_of s) in
    answered (7 when over s ∷ 5 when shorter lent b ∷ []) b

unfoldable pub reported : Scan → Bool → Answer Scan
reported s heard = answered (7 when over s ∷ []) (record_of s (step octets_of depth list_most (walk_of s) heard))

unfoldable pub reported_all : Scan → List Bool → Scan
reported_all s [] = s
reported_all s (a ∷ answers) = reported_all (state_after (reported s a) s) answers

unfoldable pub driven : (Bits → Bool) → ℕ → Scan → Scan
driven heard zero s = s
driven heard (suc n) s = driven heard n (state_after (reported s (heard (beginning_of s))) s)
