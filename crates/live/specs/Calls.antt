-- The public call, made again and again, each time with the record that the call before left.
--   after_all h s    == the record h after the octets s, one by one; hand_outs N h s == what is handed out over them
--   Offer            == one call: how many of the octets that are left are lent, and an output of how many octets
--   Worked           == how far a caller has come: the record, the octets that are not taken yet, what was handed out
--   offers N h s cs  == one call for each of cs over the octets s
--   fed N room h rs  == the runs rs one after the other, each lent whole, and again with what was left of it; empty runs, too
--   Roomy N cs       == no output is shorter than N - 2
--   Alike h g        == two records are equal but for places of the store past the count
--   CallTells x h s o r g o' == what the code's answer r, the record g and the output o' tell of the answer x to a call with
--                       the record h, the run s and the output o, by the cases of what was handed out (HeardTells)
--   read_out r o     == what a caller reads: of the answer r and the output o that it got back
--   Round            == one call and what came of it: how many of the octets that are left are lent, the output, the code's
--                       answer, and the record and the output after it
--   played h s cs    == how far the calls cs over the octets s take a caller: it reads what it gets back, and goes on with
--                       the record and the store that it got back and with the octets that were not taken
--   Kept N h s cs    == each answer of such calls is one that the promise of `receive` allows
--   round_offers cs  == how the calls cs offer the octets
--   Likewise t u     == two calls go equally far, with the same record behind them, and both hand something out or neither
-- Assumes nothing.
use Rattle.std.specs.Prelude.{Option, Some, None, Result, Ok, Err}
use Rattle.std.specs.Prelude.{◌≡◌, cond, List, [], ◌∷◌, ◌++◌, ◌⊎◌, ℕ, zero, suc, ◌≤◌, length, take, drop}
use Rattle.octets.specs.Octets.{◌at_start_of◌}
use Rattle.refusal.specs.Numbers.{number_of}
use Rattle.refusal.specs.Answer.{Answer, gives, refuses}
use Rattle.refusal.specs.declared.Refusal.{Refusal}
use Rattle.limits.specs.Limits.{frame_most}
use Rattle.receiver.specs.Held.{Held, after_octet, closes, stretch_says}
use Rattle.receiver.specs.declared.Received.{Received}
use Rattle.receiver.specs.Call.{Told, nothing, handed, Took, received, code_took, took_by, held_by, Receives}

unfoldable pub after_all : Held → List ℕ → Held
after_all h [] = h
after_all h (x ∷ xs) = after_all (after_octet h x) xs

unfoldable pub hand_outs : ℕ → Held → List ℕ → List (Answer (List ℕ))
hand_outs N h [] = []
hand_outs N h (x ∷ xs) =
    cond (closes h x) (stretch_says N (frame_most N) h ∷ hand_outs N (after_octet h x) xs) (hand_outs N (after_octet h x) xs)

pub record Offer : Type 0 where
  pub octets : ℕ
  pub room : ℕ

pub record Worked : Type 0 where
  pub held : Held
  pub left : List ℕ
  pub outs : List (Answer (List ℕ))

-- what one call hands out: nothing where it is refused
unfoldable pub told_outs : Told (List ℕ) → List (Answer (List ℕ))
told_outs nothing = []
told_outs (handed a) = a ∷ []

unfoldable pub outs_by : Answer Took → List (Answer (List ℕ))
outs_by (gives t) = told_outs t.told
outs_by (refuses k) = []

-- what was handed out before, in front
unfoldable pub with_outs : List (Answer (List ℕ)) → Worked → Worked
with_outs a w = record { held = w.held; left = w.left; outs = a ++ w.outs }

-- what a call did not take is offered again
unfoldable pub offers : ℕ → Held → List ℕ → List Offer → Worked
offers N h s [] = record { held = h; left = s; outs = [] }
offers N h s (c ∷ cs) =
    let a : Answer Took = received N h (take c.octets s) c.room in
    with_outs (outs_by a) (offers N (held_by a h) (drop (took_by a) s) cs)

-- all that is left of the run, as often as there can be something left of it
unfoldable pub run_again : ℕ → ℕ → ℕ → List Offer
run_again zero n room = []
run_again (suc k) n room = record { octets = n; room = room } ∷ run_again k n room

unfoldable pub fed : ℕ → ℕ → Held → List (List ℕ) → Worked
fed N room h [] = record { held = h; left = []; outs = [] }
fed N room h (r ∷ rs) =
    let w : Worked = offers N h r (run_again (suc (length r)) (length r) room) in
    let v : Worked = fed N room w.held rs in
    record { held = v.held; left = w.left ++ v.left; outs = w.outs ++ v.outs }

unfoldable pub Roomy : ℕ → List Offer → Type 0
Roomy N [] = Unit {0}
Roomy N (c ∷ cs) = (frame_most N ≤ c.room) × Roomy N cs

abbrev pub Alike : Held → Held → Type 0
Alike h g = (h.marks ≡ g.marks) × (take h.marks.count h.store ≡ take g.marks.count g.store)

pub record Likewise (t u : Took) : Type 0 where
  pub held : t.held ≡ u.held
  pub count : t.count ≡ u.count
  pub told : ((t.told ≡ nothing) × (u.told ≡ nothing))
      ⊎ ((a : Answer (List ℕ)) × (b : Answer (List ℕ)) × (t.told ≡ handed a) × (u.told ≡ handed b))

-- nothing was handed out: the whole run is taken; a frame, at the start of the output; the number of a stretch; or the call
-- itself is refused
abbrev pub HeardTells : Option (Result ℕ Refusal) → Answer Took → List ℕ → List ℕ → ℕ → Held → List ℕ → Type 0
HeardTells None x s o k g o' =
    (t : Took) × (x ≡ gives t) × (t.told ≡ nothing) × (k ≡ length s) × (g ≡ t.held) × (o' ≡ o)
HeardTells (Some (Ok n)) x s o k g o' =
    (t : Took) × (x ≡ gives t) × (t.told ≡ handed (gives (take n o'))) × (k ≡ t.count) × (g ≡ t.held)
    × (n ≡ length (take n o')) × (o' ≡ take n o' at_start_of o)
HeardTells (Some (Err r)) x s o k g o' =
    (t : Took) × (x ≡ gives t) × (t.told ≡ handed (refuses (number_of r))) × (k ≡ t.count) × (g ≡ t.held) × (o' ≡ o)

abbrev pub CallTells : Answer Took → Held → List ℕ → List ℕ → Result Received Refusal → Held → List ℕ → Type 0
CallTells x h s o (Ok c) g o' = HeardTells c.handed x s o c.taken g o'
CallTells x h s o (Err r) g o' = (x ≡ refuses (number_of r)) × (g ≡ h) × (o' ≡ o)

-- a frame is read at the start of the output
unfoldable pub handed_read : Option (Result ℕ Refusal) → List ℕ → List (Answer (List ℕ))
handed_read None o = []
handed_read (Some (Ok n)) o = gives (take n o) ∷ []
handed_read (Some (Err k)) o = refuses (number_of k) ∷ []

unfoldable pub read_out : Result Received Refusal → List ℕ → List (Answer (List ℕ))
read_out (Ok c) o = handed_read c.handed o
read_out (Err k) o = []

pub record Round : Type 0 where
  pub octets : ℕ
  pub output : List ℕ
  pub answer : Result Received Refusal
  pub held : Held
  pub after : List ℕ

unfoldable pub played : Held → List ℕ → List Round → Worked
played h s [] = record { held = h; left = s; outs = [] }
played h s (c ∷ cs) =
    with_outs (read_out c.answer c.after) (played c.held (drop (code_took c.answer) s) cs)

unfoldable pub Kept : ℕ → Held → List ℕ → List Round → Type 0
Kept N h s [] = Unit {0}
Kept N h s (c ∷ cs) =
    Receives (received N h (take c.octets s) (length c.output)) h c.output c.answer c.held c.after
    × Kept N c.held (drop (code_took c.answer) s) cs

unfoldable pub round_offers : List Round → List Offer
round_offers [] = []
round_offers (c ∷ cs) = record { octets = c.octets; room = length c.output } ∷ round_offers cs
