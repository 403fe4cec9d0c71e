-- The bytes of the handshake: what a server says first, and the options that a client asks for.
use Rattle.std.specs.Prelude.{◌≡◌, ℕ, ◌+◌, ◌*◌, ◌^◌, ◌<◌, ◌==◌, ◌&&◌, nat_le, nat_lt, Bool, if◌then◌else◌, List, [], ◌++◌, length, codes, replicate}
use Rattle.nbd_frames.specs.{Numbers.{two, four, eight, two_at, four_at}, declared.handshake.Choice.Choice}
use Rattle.nbd_frames.specs.{declared.handshake.Choice.TheVariants.{ExportName, Abort, Exports, Info, Go, Other}, declared.handshake.OptionHeader.OptionHeader}
use Rattle.nbd_frames.specs.declared.handshake.Reply.{Reply as Kind}
use Rattle.nbd_frames.specs.declared.handshake.Reply.TheVariants as says

-- IHAVEOPT, as a number
abbrev pub option_magic : ℕ
option_magic = 0x49484156454F5054

-- what a server says first: that it speaks the fixed newstyle, and can leave out the zeros behind an export's size
abbrev pub greeting : List ℕ
greeting = codes "NBDMAGIC" ++ (eight option_magic ++ two 3)

-- the flags with which a client answers are known, and whether it wants these zeros
abbrev pub are_known : ℕ → Bool
are_known flags = nat_lt flags 4

abbrev pub wants_zeros : ℕ → Bool
wants_zeros flags = nat_lt flags 2

-- an option's number
abbrev pub choice_code : Choice → ℕ
choice_code ExportName = 1
choice_code Abort = 2
choice_code Exports = 3
choice_code Info = 6
choice_code Go = 7
choice_code (Other code) = code

-- the option with a number
abbrev pub choice_of : ℕ → Choice
choice_of code =
    if code == 1 then ExportName else if code == 2 then Abort else if code == 3 then Exports else if code == 6 then Info
    else if code == 7 then Go else Other code

-- the 16 bytes in front of an option's data
abbrev pub option_bytes : OptionHeader → List ℕ
option_bytes h = eight option_magic ++ (four (choice_code h.choice) ++ four h.size)

-- its numbers have such bytes, and an option that has a name goes by it
pub record IsOption (h : OptionHeader) : Type 0 where
  pub code : choice_code h.choice < 2 ^ 32
  pub named : h.choice ≡ choice_of (choice_code h.choice)
  pub size : h.size < 2 ^ 32

-- the number of a kind of reply
abbrev pub reply_code : Kind → ℕ
reply_code says.Ack = 1
reply_code says.Server = 2
reply_code says.Info = 3
reply_code says.Unsupported = 0x80000001
reply_code says.Invalid = 0x80000003
reply_code says.TooBig = 0x80000009

-- the 20 bytes in front of the data of a reply to an option, which are so many, and all of its bytes
abbrev pub reply_front : Choice → Kind → ℕ → List ℕ
reply_front choice kind size = eight 0x3E889045565A9 ++ (four (choice_code choice) ++ (four (reply_code kind) ++ four size))

abbrev pub option_reply : Choice → Kind → List ℕ → List ℕ
option_reply choice kind bytes = reply_front choice kind (length bytes) ++ bytes

-- what is said of a disk of so many bytes: flush and forced writes are known
abbrev pub transmission_flags : ℕ
transmission_flags = 1 + 4 + 8

abbrev pub export_bytes : ℕ → List ℕ
export_bytes size = eight size ++ two transmission_flags

-- the data of an INFO or a GO: the length of a name, the name, how many kinds of information are asked for, and these, of two bytes each
abbrev pub asks_info : List ℕ → Bool
asks_info bytes =
    nat_le 6 (length bytes) && (nat_le (four_at bytes 0 + 6) (length bytes) && (length bytes == four_at bytes 0 + 6 + 2 * two_at bytes (4 + four_at bytes 0)))

-- the most bytes of such data that are read
abbrev pub most_data : ℕ
most_data = 8192

-- whether it is answered with what is to know of the disk
abbrev pub is_told : List ℕ → Bool
is_told bytes = nat_le (length bytes) most_data && asks_info bytes

abbrev pub info_replies : ℕ → Choice → List ℕ → List ℕ
info_replies size choice bytes =
    if nat_lt most_data (length bytes) then option_reply choice says.TooBig []
    else if asks_info bytes then option_reply choice says.Info (two 0 ++ export_bytes size) ++ option_reply choice says.Ack []
    else option_reply choice says.Invalid []

-- all that a server with a disk of this size answers to an option with these data; every name is the disk's
abbrev pub replies_to : ℕ → Bool → Choice → List ℕ → List ℕ
replies_to size zeros ExportName bytes = export_bytes size ++ (if zeros then replicate 124 0 else [])
replies_to size zeros Abort bytes = option_reply Abort says.Ack []
replies_to size zeros Exports bytes =
    if length bytes == 0 then option_reply Exports says.Server (four 0) ++ option_reply Exports says.Ack [] else option_reply Exports says.Invalid []
replies_to size zeros Info bytes = info_replies size Info bytes
replies_to size zeros Go bytes = info_replies size Go bytes
replies_to size zeros (Other code) bytes = option_reply (Other code) says.Unsupported []
