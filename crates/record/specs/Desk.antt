-- A desk with one of its fields changed. A desk is spelt out here and where a fresh one is made, and nowhere else.
--   with_address k a, with_limit k n, with_subscription k b, with_told k a, with_said k a, with_reply k p == the desk k with another
--     address, frame limit, subscription, what was told, what an indication says, reply
--   Payload == an answer's payload, as a desk holds it
--   calm, no_reply == no alarm; nothing lies in the reply
--   unsaid k == the desk k with nothing pending: what a pending answer or indication left is erased
-- Assumes nothing.
use Rattle.std.specs.Prelude.{Bool, ℕ, replicate}
use Rattle.antenna.specs.declared.Alarms.{Alarms}
use Rattle.antenna.specs.Alarms.{no_alarms}
use Rattle.record.specs.Allowed.{reply_most}
use Rattle.octets.specs.declared.Text.{Text}
use Rattle.record.specs.declared.Desk.{Desk}

abbrev pub calm : Alarms
calm = record { flags = no_alarms }

-- the payload of an answer
abbrev pub Payload : Type 0
Payload = Text reply_most

-- nothing is pending, so nothing lies in the reply
abbrev pub no_reply : Payload
no_reply = record { octets = replicate reply_most 0; len = 0 }

abbrev pub with_address : Desk → ℕ → Desk
with_address k a =
    record { address = a; limit = k.limit; subscribed = k.subscribed; told = k.told; said = k.said; reply = k.reply }

abbrev pub with_limit : Desk → ℕ → Desk
with_limit k n =
    record { address = k.address; limit = n; subscribed = k.subscribed; told = k.told; said = k.said; reply = k.reply }

abbrev pub with_subscription : Desk → Bool → Desk
with_subscription k b =
    record { address = k.address; limit = k.limit; subscribed = b; told = k.told; said = k.said; reply = k.reply }

abbrev pub with_told : Desk → Alarms → Desk
with_told k a =
    record { address = k.address; limit = k.limit; subscribed = k.subscribed; told = a; said = k.said; reply = k.reply }

abbrev pub with_said : Desk → Alarms → Desk
with_said k a =
    record { address = k.address; limit = k.limit; subscribed = k.subscribed; told = k.told; said = a; reply = k.reply }

abbrev pub with_reply : Desk → Payload → Desk
with_reply k p =
    record { address = k.address; limit = k.limit; subscribed = k.subscribed; told = k.told; said = k.said; reply = p }

abbrev pub unsaid : Desk → Desk
unsaid k = with_reply (with_said k calm) no_reply
