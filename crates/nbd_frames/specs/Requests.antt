-- The bytes of requests and replies, once the client and the server have agreed.
use Rattle.std.specs.Prelude.{◌≡◌, ℕ, zero, suc, ◌^◌, ◌<◌, List, ◌++◌, Option, Some, None}
use Rattle.nbd_frames.specs.{Numbers.{two, four, eight}, declared.replies.Failure.Failure, declared.request.Command.Command}
use Rattle.nbd_frames.specs.{declared.request.Command.TheVariants.{Read, Write, Disconnect, Flush, Other}, declared.request.RequestHeader.RequestHeader}
use Rattle.nbd_frames.specs.declared.replies.Failure.TheVariants as why

-- a command's number
abbrev pub code_of : Command → ℕ
code_of Read = 0
code_of Write = 1
code_of Disconnect = 2
code_of Flush = 3
code_of (Other code) = code

-- the command with a number
abbrev pub command_of : ℕ → Command
command_of zero = Read
command_of (suc zero) = Write
command_of (suc (suc zero)) = Disconnect
command_of (suc (suc (suc zero))) = Flush
command_of (suc (suc (suc (suc code)))) = Other (suc (suc (suc (suc code))))

abbrev pub request_magic : ℕ
request_magic = 0x25609513

-- the 28 bytes in front of what a request brings
abbrev pub request_bytes : RequestHeader → List ℕ
request_bytes h = four request_magic ++ (two h.flags ++ (two (code_of h.command) ++ (eight h.cookie ++ (eight h.at ++ four h.size))))

-- its numbers have such bytes, and a command that has a name goes by it
pub record IsHeader (h : RequestHeader) : Type 0 where
  pub flags : h.flags < 2 ^ 16
  pub code : code_of h.command < 2 ^ 16
  pub named : h.command ≡ command_of (code_of h.command)
  pub cookie : h.cookie < 2 ^ 64
  pub at : h.at < 2 ^ 64
  pub size : h.size < 2 ^ 32

-- NBD's number of a failure, and 0 where there is none
abbrev pub failure_number : Failure → ℕ
failure_number why.Io = 5
failure_number why.NoMemory = 12
failure_number why.Invalid = 22
failure_number why.NoSpace = 28
failure_number why.Shutdown = 108

abbrev pub error_number : Option Failure → ℕ
error_number None = 0
error_number (Some failure) = failure_number failure

abbrev pub reply_magic : ℕ
reply_magic = 0x67446698

-- the 16 bytes of the reply to the request with this cookie, in front of what a read gives
abbrev pub reply_bytes : Option Failure → ℕ → List ℕ
reply_bytes failure cookie = four reply_magic ++ (four (error_number failure) ++ eight cookie)
