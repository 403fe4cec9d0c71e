-- Why no further message of a client comes.
use Rattle.std.specs.{Io.KnownBytes.IsAtEnd, Prelude.{◌≡◌, ◌≢◌, ◌⊎◌, ℕ, ◌<◌, false, List, [], ◌++◌, length, take, Option}}
use Rattle.pcm_io.specs.Faults.{Rose}
use Rattle.nbd_frames.specs.{Numbers.{four, eight}, Options.{IsOption, are_known, option_bytes, option_magic}, Requests.{IsHeader, request_bytes, request_magic}}
use Rattle.nbd_frames.specs.{declared.handshake.OptionHeader.OptionHeader, declared.request.Command.TheVariants.Disconnect, declared.request.RequestHeader.RequestHeader}
use Rattle.disk_server.specs.{Exchanges.payload_of, declared.phase.Ended.Ended, declared.phase.SessionPhase.SessionPhase, declared.phase.SessionPhase.TheVariants.{Opening, Choosing, Serving, Over}}
use Rattle.disk_server.specs.declared.phase.Ended.TheVariants as by

-- some first bytes of a message, which isn't whole
abbrev pub IsPart : SessionPhase → List ℕ → Type 0
IsPart Opening bytes = length bytes < 4
IsPart (Choosing zeros) bytes = (length bytes < 16)
    ⊎ ((h : OptionHeader) × (more : List ℕ) × IsOption h × (bytes ≡ option_bytes h ++ more) × (length more < h.size))
IsPart Serving bytes = (length bytes < 28)
    ⊎ ((h : RequestHeader) × (more : List ℕ) × IsHeader h × (bytes ≡ request_bytes h ++ more) × (length more < payload_of h.command h.size))
IsPart Over bytes = ⊥

-- the beginning of no message
abbrev pub IsNone : SessionPhase → List ℕ → Type 0
IsNone Opening bytes = (flags : ℕ) × (bytes ≡ four flags) × (are_known flags ≡ false)
IsNone (Choosing zeros) bytes = (length bytes ≡ 16) × (take 8 bytes ≢ eight option_magic)
IsNone Serving bytes = (length bytes ≡ 28) × (take 4 bytes ≢ four request_magic)
IsNone Over bytes = ⊥

-- the client said that it leaves
abbrev pub Leaves : SessionPhase → List ℕ → Type 0
Leaves Serving bytes = (h : RequestHeader) × IsHeader h × (h.command ≡ Disconnect) × (bytes ≡ request_bytes h)
Leaves Over bytes = bytes ≡ []
Leaves phase bytes = ⊥

-- no message follows, where the client and the server stand so: this came in its place, and then this is left, and calls of the source failed so often
-- before and behind
abbrev pub NoneFollows : Ended → SessionPhase → List ℕ → Option (List ℕ) → ℕ → ℕ → Type 0
NoneFollows by.Left phase bytes left before now = Leaves phase bytes
NoneFollows by.Closed phase bytes left before now = (bytes ≡ []) × IsAtEnd left
NoneFollows by.Broken phase bytes left before now = (0 < length bytes) × IsPart phase bytes × IsAtEnd left
NoneFollows by.Strange phase bytes left before now = IsNone phase bytes
NoneFollows by.Unread phase bytes left before now = IsPart phase bytes × Rose before now
NoneFollows by.Unwritten phase bytes left before now = ⊥
NoneFollows by.Endless phase bytes left before now = ⊥
