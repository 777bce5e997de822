-- `receiver::receive_in` meets its promise: a law for each test. Assumes nothing.
use mathlib.Core.Path.{sym, ◌∙◌}
use Rattle.refusal.specs.declared.Refusal.TheVariants.{NoRoom, NotAllowed}
use Rattle.receiver.proofs.Refusals.{no-limit, no_store, no_record, no_room, in_order, refused-call, receives-is}
use Rattle.receiver.proofs.receive_in.Goals as goal

pub returns-then-not-is_limit : goal.returns-then-not-is_limit
returns-then-not-is_limit c =
    refused-call NotAllowed
    (no-limit _ _ _ _ (sym c.is_limit.ensures ∙ c.if-not-is_limit.true))

pub returns-then-store-ne-PLACES : goal.returns-then-store-ne-PLACES
returns-then-store-ne-PLACES c =
    let limit = sym c.is_limit.ensures ∙ c.if-not-is_limit.false in
    refused-call NotAllowed (no_store _ _ _ _ limit c.if-store-ne-PLACES.true)

pub returns-then-receiver-gt-PLACES : goal.returns-then-receiver-gt-PLACES
returns-then-receiver-gt-PLACES c =
    let limit = sym c.is_limit.ensures ∙ c.if-not-is_limit.false in
    refused-call NotAllowed (no_record _ _ _ _ limit c.if-store-ne-PLACES.false c.if-receiver-gt-PLACES.true)

pub returns-then-out-frame_most : goal.returns-then-out-frame_most
returns-then-out-frame_most c =
    let limit = sym c.is_limit.ensures ∙ c.if-not-is_limit.false in
    let room = rw c.frame_most.ensures at c.if-out-frame_most.true in
    refused-call NoRoom (no_room _ _ _ _ limit c.if-store-ne-PLACES.false c.if-receiver-gt-PLACES.false room)

pub listen-requires : goal.listen-requires
listen-requires c =
    (c.if-store-ne-PLACES.false, c.if-receiver-gt-PLACES.false)

pub returns : goal.returns
returns c =
    let limit = sym c.is_limit.ensures ∙ c.if-not-is_limit.false in
    let room = rw c.frame_most.ensures at c.if-out-frame_most.false in
    receives-is (sym (in_order _ _ _ _ limit c.if-store-ne-PLACES.false
    c.if-receiver-gt-PLACES.false room)) c.listen.ensures
