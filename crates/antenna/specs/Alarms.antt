-- Alarms: "only alarms named below", and they are these six.
--   alarm_codes     == the codes, ascending
--   codes_of f      == the codes whose flags are set in f, ascending
--   any_differ f g  == the flags f and g differ somewhere
--   changes_of now was == pairs of a code and 1 (raised) or 0, ascending, where the flags now and the flags then differ
--   no_alarms       == no flag is set
--   flag_of k f     == the flag of the alarm k in f
--   Ascending ks    == each number is below all that follow it
--   codes_in pairs  == the codes of the pairs; applied pairs f == f with the flag of each pair's code set to its state
-- Assumes nothing.
use Rattle.std.specs.Prelude.{Bool, true, false, cond, not, List, [], ◌∷◌, ℕ, ◌<◌, eqb, get_or, set}
use Rattle.octets.specs.Octets.{place_of}

-- "an alarm not among 0x02, 0x03, 0x0E, 0x0F, 0x11, 0x27"
abbrev pub alarm_codes : List ℕ
alarm_codes = 0x02 ∷ 0x03 ∷ 0x0E ∷ 0x0F ∷ 0x11 ∷ 0x27 ∷ []

abbrev pub no_alarms : List Bool
no_alarms = false ∷ false ∷ false ∷ false ∷ false ∷ false ∷ []

-- "raised alarms, ascending"
unfoldable pub codes_among : List ℕ → List Bool → List ℕ
codes_among [] fs = []
codes_among (c ∷ cs) [] = []
codes_among (c ∷ cs) (f ∷ fs) = cond f (c ∷ codes_among cs fs) (codes_among cs fs)

abbrev pub codes_of : List Bool → List ℕ
codes_of flags = codes_among alarm_codes flags

-- a flag as an octet: "1 (raised) or 0"
abbrev pub flag_octet : Bool → ℕ
flag_octet true = 1
flag_octet false = 0

abbrev pub differs : Bool → Bool → Bool
differs a b = cond a (not b) b

-- some flag differs: there is something to tell
unfoldable pub any_differ : List Bool → List Bool → Bool
any_differ [] gs = false
any_differ (a ∷ fs) [] = false
any_differ (a ∷ fs) (b ∷ gs) = cond (differs a b) true (any_differ fs gs)

-- "pairs alarm and 1 (raised) or 0, ascending, for alarms whose present state differs from what was told"
unfoldable pub changes_among : List ℕ → List Bool → List Bool → List ℕ
changes_among [] ps ts = []
changes_among (c ∷ cs) [] ts = []
changes_among (c ∷ cs) (p ∷ ps) [] = []
changes_among (c ∷ cs) (p ∷ ps) (t ∷ ts) =
    cond (differs p t) (c ∷ flag_octet p ∷ changes_among cs ps ts) (changes_among cs ps ts)

abbrev pub changes_of : List Bool → List Bool → List ℕ
changes_of present told = changes_among alarm_codes present told

-- the words of the laws about these: which flag is a code's, the order, and what a master reads out of the pairs
unfoldable pub flag_among : List ℕ → ℕ → List Bool → Bool
flag_among codes k flags = get_or flags (place_of k codes) false

abbrev pub flag_of : ℕ → List Bool → Bool
flag_of k flags = flag_among alarm_codes k flags

abbrev pub BelowAll : ℕ → List ℕ → Type 0
BelowAll k [] = Unit {0}
BelowAll k (n ∷ ns) = (k < n) × BelowAll k ns

-- "ascending"
abbrev pub Ascending : List ℕ → Type 0
Ascending [] = Unit {0}
Ascending (k ∷ ks) = BelowAll k ks × Ascending ks

-- "pairs alarm and 1 (raised) or 0"
unfoldable pub codes_in : List ℕ → List ℕ
codes_in [] = []
codes_in (k ∷ []) = []
codes_in (k ∷ state ∷ pairs) = k ∷ codes_in pairs

unfoldable pub applied_among : List ℕ → List ℕ → List Bool → List Bool
applied_among codes [] flags = flags
applied_among codes (k ∷ []) flags = flags
applied_among codes (k ∷ state ∷ pairs) flags =
    applied_among codes pairs (set flags (place_of k codes) (eqb state 1))

abbrev pub applied : List ℕ → List Bool → List Bool
applied pairs flags = applied_among alarm_codes pairs flags
