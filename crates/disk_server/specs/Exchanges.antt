-- Requests of a client, and what became of them.
use Rattle.std.specs.Prelude.{◌≡◌, ◌≢◌, ◌⊎◌, ℕ, ◌+◌, ◌-◌, ◌^◌, ◌&&◌, nat_lt, nat_le, Bool, true, false, List, [], ◌∷◌, ◌++◌, length, replicate, Option, Some, None, Result, Ok, Err}
use Rattle.atomic_sectors.specs.declared.lines.Stopped.TheVariants as why
use Rattle.disk_rules.specs.{declared.DiskAnswer.DiskAnswer, declared.DiskRequest.DiskRequest, declared.DiskRequest.TheVariants.{Read, Write, Flush}}
use Rattle.disk_rules.specs.declared.DiskAnswer.TheVariants as says
use Rattle.disk_rules.specs.declared.DiskRefusal.TheVariants as refusal
use Rattle.disk_bytes.specs.Serving.{stops_of}
use Rattle.nbd_frames.specs.{Requests.{IsHeader, reply_bytes}, declared.replies.Failure.Failure, declared.request.Command.Command, declared.request.RequestHeader.RequestHeader}
use Rattle.nbd_frames.specs.declared.request.Command.TheVariants as asks
use Rattle.nbd_frames.specs.declared.replies.Failure.TheVariants as fails
use Rattle.disk_server.specs.{declared.answering.OnCut.OnCut, declared.answering.OnCut.TheVariants.{Ride, Drop}}

-- what the disk was asked for: so many times a power cut stopped it, it was asked again, and this is the last answer
pub record Served : Type 0 where
  pub request : DiskRequest
  pub cuts : ℕ
  pub answer : DiskAnswer

-- a request, the bytes that came with it, and what became of it: it was served, or the disk wasn't asked
pub record Exchange : Type 0 where
  pub header : RequestHeader
  pub bytes : List ℕ
  pub became : Result Served Failure

-- how many bytes come with a request
abbrev pub payload_of : Command → ℕ → ℕ
payload_of asks.Write size = size
payload_of _ size = 0

-- the most bytes that one request reads or writes: 32 MiB
abbrev pub most_bytes : ℕ
most_bytes = 33554432

-- whether there is such a request, of so many bytes: FUA is the only flag
abbrev pub is_known : Command → ℕ → Bool
is_known asks.Read size = nat_le size most_bytes
is_known asks.Write size = nat_le size most_bytes
is_known asks.Flush size = true
is_known asks.Disconnect size = false
is_known (asks.Other code) size = false

abbrev pub is_request : RequestHeader → Bool
is_request h = nat_lt h.flags 2 && is_known h.command h.size

-- this is what it asks the disk for
abbrev pub AsksFor : RequestHeader → List ℕ → DiskRequest → Type 0
AsksFor h bytes (Read at size) = (h.command ≡ asks.Read) × (at ≡ h.at) × (size ≡ h.size)
AsksFor h bytes (Write at given) = (h.command ≡ asks.Write) × (at ≡ h.at) × (given.items ≡ bytes)
AsksFor h bytes Flush = h.command ≡ asks.Flush

-- whether a power cut stopped it
abbrev pub is_cut : DiskAnswer → Bool
is_cut (says.Stopped why.Cut) = true
is_cut _ = false

-- the most cuts through which a request is asked for again
abbrev pub most_cuts : ℕ
most_cuts = 2 ^ 32 - 1

-- a disk that rides through cuts asks again until none stopped it; one that drops asks once
abbrev pub Rides : OnCut → Served → Type 0
Rides Ride s = (is_cut s.answer ≡ false) ⊎ (s.cuts ≡ most_cuts)
Rides Drop s = s.cuts ≡ 0

-- what the client is told of an answer: no failure, or why the request failed
abbrev pub failure_of : DiskRequest → DiskAnswer → Option Failure
failure_of request says.Done = None
failure_of request (says.Bytes bytes) = None
failure_of (Write at bytes) (says.Refused refusal.Outside) = Some fails.NoSpace
failure_of request (says.Refused reason) = Some fails.Invalid
failure_of request (says.Stopped why.Cut) = Some fails.Shutdown
failure_of request (says.Stopped why.Worn) = Some fails.Io
failure_of request (says.Stopped why.Ended) = Some fails.Io
failure_of request (says.Stopped why.Memory) = Some fails.NoMemory

-- the bytes that an answer has
abbrev pub bytes_of : DiskAnswer → List ℕ
bytes_of (says.Bytes bytes) = bytes.items
bytes_of _ = []

abbrev pub reply_of : ℕ → Result Served Failure → List ℕ
reply_of cookie (Ok s) = reply_bytes (failure_of s.request s.answer) cookie ++ bytes_of s.answer
reply_of cookie (Err failure) = reply_bytes (Some failure) cookie

-- what a request brings: a request to the disk, where there is such a one, else why the disk isn't asked; of a write alone memory may lack
abbrev pub Brings : RequestHeader → List ℕ → Result DiskRequest Failure → Type 0
Brings h bytes (Ok request) = (is_request h ≡ true) × AsksFor h bytes request
Brings h bytes (Err failure) = ((failure ≡ fails.Invalid) × (is_request h ≡ false)) ⊎ ((failure ≡ fails.NoMemory) × (h.command ≡ asks.Write))

-- what becomes of it
abbrev pub Becomes : OnCut → RequestHeader → List ℕ → Result Served Failure → Type 0
Becomes mode h bytes (Ok s) = Brings h bytes (Ok s.request) × Rides mode s
Becomes mode h bytes (Err failure) = Brings h bytes (Err failure)

pub record IsExchange (mode : OnCut) (x : Exchange) : Type 0 where
  pub header : IsHeader x.header
  pub stays : x.header.command ≢ asks.Disconnect
  pub size : length x.bytes ≡ payload_of x.header.command x.header.size
  pub became : Becomes mode x.header x.bytes x.became

-- what the disk was asked for and answered by then, the newest first
abbrev pub asked_behind : Result Served Failure → List (DiskRequest × DiskAnswer) → List (DiskRequest × DiskAnswer)
asked_behind (Ok s) before = (s.request, s.answer) ∷ (replicate s.cuts (s.request, says.Stopped why.Cut) ++ before)
asked_behind (Err failure) before = before

-- how many of these were stopped, other than for want of memory
abbrev pub stops_behind : Result Served Failure → ℕ → ℕ
stops_behind (Ok s) before = stops_of s.answer + (s.cuts + before)
stops_behind (Err failure) before = before
