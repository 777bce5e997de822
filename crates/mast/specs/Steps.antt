-- What the code's private functions do, one probe of a sweep: the code's own words, over those of the bus.
--   line_in w         == the line that the written octets w are
--   frame_in x        == what is said, x, is a frame
--   Probing x r       == r is the line of the probe that x gives, or none where it gives none
--   Listens d l b d'  == d' is the device d after the line l, and b whether it answered
--   Sends ds n l b es == es are the devices ds after the first n of them heard the line l, and b whether one answered
-- Assumes nothing.
use Rattle.std.specs.Prelude.{Ok, Err, Some, None, Option, is_some}
use Rattle.std.specs.Prelude.{◌≡◌, Bool, true, false, List, ◌++◌, ℕ, take, drop}
use Rattle.refusal.specs.Answer.{Answer, gives, refuses}
use Rattle.record.specs.declared.Device.{Device}
use Rattle.device.specs.Judge.{Said}
use Rattle.bus.specs.Cable.{line_for, replies_to, after_line, any_replies, all_after}
use Rattle.octets.specs.Text.{content}
use Rattle.octets.specs.declared.Text.{Text}
use Rattle.limits.specs.Limits.{limit_least, line_most}

abbrev pub line_in : Text (line_most limit_least) → List ℕ
line_in = content

abbrev pub frame_in : Said → Bool
frame_in (Ok None) = false
frame_in (Ok (Some n)) = true
frame_in (Err k) = false

unfoldable pub is_handed_out : Answer (List ℕ) → Bool
is_handed_out (gives f) = true
is_handed_out (refuses k) = false

pub record Probing (x : Answer (List ℕ)) (r : Option (Text (line_most limit_least))) : Type 0 where
  pub asks : is_some r ≡ is_handed_out x
  pub line : (f : List ℕ) (w : Text (line_most limit_least)) → x ≡ gives f → r ≡ Some w → line_in w ≡ line_for f

pub record Listens (d : Device) (l : List ℕ) (b : Bool) (d' : Device) : Type 0 where
  pub heard : b ≡ replies_to d l
  pub device : d' ≡ after_line d l

pub record Sends (ds : List Device) (n : ℕ) (l : List ℕ) (b : Bool) (es : List Device) : Type 0 where
  pub heard : b ≡ any_replies (take n ds) l
  pub devices : es ≡ all_after (take n ds) l ++ drop n ds
