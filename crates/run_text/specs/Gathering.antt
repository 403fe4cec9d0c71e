-- A text that is gathered in memory and written to a sink piece after piece.
use Rattle.std.specs.{Io.KnownBytes.Appends, Prelude.{◌≡◌, ℕ, ◌≤◌, List, ◌++◌, Option}}
use Rattle.pcm_io.specs.Reserved.{Reserved, room_in}
use Rattle.text_printer.specs.declared.room.TheConstants.{TEXT_ROOM}

-- some first bytes of the text went to a sink, all of them or none, and so many more fit now
pub record Flushes (room : ℕ) (old new : Reserved) (before now : Option (List ℕ)) : Type 0 where
  pub piece : List ℕ
  pub sent : Appends before now piece
  pub kept : old.bytes ≡ piece ++ new.bytes
  pub limit : new.limit ≡ old.limit
  pub room_left : room ≤ room_in new

-- these bytes are printed: what the sink got since `before`, and behind it what the text still holds
pub record Printed (before now : Option (List ℕ)) (text : Reserved) (whole : List ℕ) : Type 0 where
  pub gone : List ℕ
  pub sent : Appends before now gone
  pub is : gone ++ text.bytes ≡ whole
  pub limit : text.limit ≡ TEXT_ROOM
