-- The public calls, made again and again, each time with the record that the call before left, and the last call behind them.
--   fresh_holding m w == the record before any octet, with the two stores m and w
--   Turn              == one call and what came of it: how many of the octets that are left are lent, the output, the
--                        code's answer, and the record and the output after it
--   read_listing r, end_listed r == what a caller reads of what is listed, and at the last call
--   Sifted            == how far a caller has come: the record, the octets that are not taken yet, all that was written
--                        and all that was listed
--   sifted c s ts     == how far the calls ts over the octets s take a caller: it reads what it gets back, and goes on
--                        with the record that it got back and with the octets that were not taken
--   Wrote t n d o o'  == n octets that are written, the record d and the output o' that was o, are what t says was written and
--                        is carried
--   Stops s e k v     == a call that left out the stretch e took k octets of the run s, and left the record v
--   ReadTells x c s o r d o' == what an answer r, the record d and the output o' tell of the answer x to a call with the record
--                        c, the run s and the output o, by the cases of what is left out (ListingTells)
--   FinishTells x v r u == what an answer r, and the record u after it, tell of the answer x to the last call with the record v
--                        (EndTells)
--   Allowed N c s ts  == each answer of such calls is one that the promise of `read` allows
-- Assumes nothing.
use Rattle.std.specs.Prelude.{Option, Some, None, Result, Ok, Err}
use Rattle.std.specs.Prelude.{◌≡◌, List, [], ◌∷◌, ◌++◌, ℕ, ◌-◌, ◌<◌, length, take, drop, get_or}
use Rattle.octets.specs.Octets.{◌at_start_of◌}
use Rattle.refusal.specs.Numbers.{number_of}
use Rattle.refusal.specs.declared.Refusal.{Refusal}
use Rattle.refusal.specs.Answer.{Answer, gives, refuses}
use Rattle.frame.specs.Line.{flag}
use Rattle.receiver.specs.Held.{open_marks}
use Rattle.salvage.specs.Holding.{Holding, holding_of, fresh_salvage, add64}
use Rattle.salvage.specs.Work.{no_stretch, a_stretch, Progress, AtEnd, salvaged, taken_of, written_of, Salvages}
use Rattle.salvage.specs.declared.Stretch.{Stretch}
use Rattle.salvage.specs.declared.Salvage.{Salvage}
use Rattle.salvage.specs.declared.Salvaged.{Salvaged}

abbrev pub fresh_holding : List ℕ → List ℕ → Holding
fresh_holding m w = holding_of fresh_salvage m w

pub record Turn : Type 0 where
  pub octets : ℕ
  pub output : List ℕ
  pub answer : Result Salvaged Refusal
  pub holding : Holding
  pub after : List ℕ

unfoldable pub out_listed : Option Stretch → List Stretch
out_listed None = []
out_listed (Some s) = s ∷ []

-- a call that is refused lists nothing
unfoldable pub read_listing : Result Salvaged Refusal → List Stretch
read_listing (Ok r) = out_listed r.left_out
read_listing (Err k) = []

unfoldable pub end_listed : Result (Option Stretch) Refusal → List Stretch
end_listed (Ok q) = out_listed q
end_listed (Err k) = []

pub record Sifted : Type 0 where
  pub holding : Holding
  pub left : List ℕ
  pub written : List ℕ
  pub listed : List Stretch

unfoldable pub with_sifted : List ℕ → List Stretch → Sifted → Sifted
with_sifted b es u =
    record { holding = u.holding; left = u.left; written = b ++ u.written; listed = es ++ u.listed }

unfoldable pub sifted : Holding → List ℕ → List Turn → Sifted
sifted c s [] = record { holding = c; left = s; written = []; listed = [] }
sifted c s (t ∷ ts) =
    with_sifted (take (written_of t.answer) t.after) (read_listing t.answer)
    (sifted t.holding (drop (taken_of t.answer) s) ts)

unfoldable pub Allowed : ℕ → Holding → List ℕ → List Turn → Type 0
Allowed N c s [] = Unit {0}
Allowed N c s (t ∷ ts) =
    Salvages (salvaged N c (take t.octets s) (length t.output)) c t.output t.answer t.holding t.after
    × Allowed N t.holding (drop (taken_of t.answer) s) ts

abbrev pub Wrote : Progress → ℕ → Holding → List ℕ → List ℕ → Type 0
Wrote t n d o o' = (d ≡ t.holding) × (take n o' ≡ t.written) × (o' ≡ t.written at_start_of o)

-- a call stops behind a stretch that is left out: the flag behind it is the last octet taken, and what is open begins there
abbrev pub Stops : List ℕ → Stretch → ℕ → Salvage → Type 0
Stops s e k v =
    (0 < k) × (get_or s (k - 1) 0 ≡ flag) × (v.receiver ≡ open_marks)
    × (v.stretch ≡ record { offset = add64 (add64 e.offset e.length) 1; length = 0; held = 0 })

-- nothing was left out: the whole run is taken; a stretch; or the call is refused, and nothing is changed
abbrev pub ListingTells : Option Stretch → Answer Progress → List ℕ → List ℕ → ℕ → ℕ → Holding → List ℕ → Type 0
ListingTells None x s o k n d o' =
    (t : Progress) × (x ≡ gives t) × (t.left ≡ no_stretch) × (k ≡ t.count) × (k ≡ length s) × Wrote t n d o o'
ListingTells (Some e) x s o k n d o' =
    (t : Progress) × (x ≡ gives t) × (t.left ≡ a_stretch e) × (k ≡ t.count) × Wrote t n d o o' × Stops s e k d.salvage

abbrev pub ReadTells : Answer Progress → Holding → List ℕ → List ℕ → Result Salvaged Refusal → Holding → List ℕ → Type 0
ReadTells x c s o (Ok r) d o' = ListingTells r.left_out x s o r.taken r.written d o'
ReadTells x c s o (Err k) d o' = (x ≡ refuses (number_of k)) × (d ≡ c) × (o' ≡ o)

abbrev pub EndTells : Option Stretch → Answer AtEnd → Salvage → Type 0
EndTells None x u = (t : AtEnd) × (x ≡ gives t) × (t.left ≡ no_stretch) × (u ≡ t.salvage)
EndTells (Some e) x u = (t : AtEnd) × (x ≡ gives t) × (t.left ≡ a_stretch e) × (u ≡ t.salvage)

abbrev pub FinishTells : Answer AtEnd → Salvage → Result (Option Stretch) Refusal → Salvage → Type 0
FinishTells x v (Ok q) u = EndTells q x u
FinishTells x v (Err k) u = (x ≡ refuses (number_of k)) × (u ≡ v)
