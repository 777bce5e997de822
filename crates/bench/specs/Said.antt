-- What is handed on to be said of a command to the row, and of a call of the receiver.
--   back_in room o   == the whole of a row of which so many octets were lent, with what stands in them now
--   Drives right n d == the row, the answer and the lent output of d are what is right, of n octets lent, 600 at most
--   Calls right n c  == what the call told and the lent output of c are what is right, of n octets lent, 600 at most
-- Assumes nothing.
use Rattle.std.specs.Prelude.{◌≡◌, ℕ, List, ◌++◌, drop, replicate}
use Rattle.refusal.specs.Answer.{Answer}
use Rattle.receiver.specs.Call.{Took, heard_of, code_took, told_by, took_by, out_by}
use Rattle.drives.specs.Drives.{Came, after_of}
use Rattle.bench.specs.Bench.{lent_of}
use Rattle.bench.specs.declared.Driven.{Driven}
use Rattle.bench.specs.declared.ear.Called.{Called}

-- "Each lent output is filled with 0xa5 before the call, and the whole of it, all ROOM octets, is printed after the call"
abbrev pub back_in : ℕ → List ℕ → List ℕ
back_in room o = o ++ drop room (replicate 600 0xA5)

pub record Drives (right : Came) (room : ℕ) (d : Driven) : Type 0 where
  pub after : after_of d.row d.answer ≡ right.after
  pub lent : d.lent ≡ back_in room right.lent

pub record Calls (right : Answer Took) (room : ℕ) (c : Called) : Type 0 where
  pub answer : heard_of c.heard ≡ told_by right
  pub count : code_took c.heard ≡ took_by right
  pub lent : c.lent ≡ back_in room (out_by right (lent_of room))
