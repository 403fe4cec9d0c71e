-- What a client and the server of a disk say to each other, message by message.
use Rattle.std.specs.Prelude.{◌≡◌, ℕ, Bool, true, false, if◌then◌else◌, List, [], ◌∷◌, ◌++◌, length}
use Rattle.disk_rules.specs.{declared.DiskAnswer.DiskAnswer, declared.DiskRequest.DiskRequest}
use Rattle.nbd_frames.specs.{Numbers.four, Options.{IsOption, are_known, greeting, is_told, option_bytes, replies_to, wants_zeros}, Requests.request_bytes}
use Rattle.nbd_frames.specs.{declared.handshake.Choice.Choice, declared.handshake.Choice.TheVariants.{ExportName, Abort, Go}, declared.handshake.OptionHeader.OptionHeader}
use Rattle.disk_server.specs.{Exchanges.{Exchange, IsExchange, asked_behind, reply_of, stops_behind}, declared.answering.OnCut.OnCut, declared.phase.SessionPhase.SessionPhase}
use Rattle.disk_server.specs.declared.phase.SessionPhase.TheVariants.{Opening, Choosing, Serving, Over}

-- a message of a client: its flags, an option with its data, or a request
pub data Message : Type 0 where
  Flags : ℕ → Message
  Chooses : OptionHeader → List ℕ → Message
  Asks : Exchange → Message

-- where the two stand behind an option: requests begin where the disk is to be used
abbrev pub behind_option : SessionPhase → Choice → List ℕ → SessionPhase
behind_option phase ExportName bytes = Serving
behind_option phase Abort bytes = Over
behind_option phase Go bytes = if is_told bytes then Serving else phase
behind_option phase _ bytes = phase

-- and behind any message
abbrev pub phase_behind : SessionPhase → Message → SessionPhase
phase_behind phase (Flags flags) = Choosing (wants_zeros flags)
phase_behind phase (Chooses h bytes) = behind_option phase h.choice bytes
phase_behind phase (Asks x) = phase

-- whether the client wants zeros behind the size of the disk
abbrev pub zeros_in : SessionPhase → Bool
zeros_in (Choosing zeros) = zeros
zeros_in _ = false

-- there is such a message, where the two stand so
abbrev pub IsMessage : OnCut → SessionPhase → Message → Type 0
IsMessage mode Opening (Flags flags) = are_known flags ≡ true
IsMessage mode (Choosing zeros) (Chooses h bytes) = IsOption h × (length bytes ≡ h.size)
IsMessage mode Serving (Asks x) = IsExchange mode x
IsMessage mode phase message = ⊥

-- the bytes that the client sent
abbrev pub sent_by : Message → List ℕ
sent_by (Flags flags) = four flags
sent_by (Chooses h bytes) = option_bytes h ++ bytes
sent_by (Asks x) = request_bytes x.header ++ x.bytes

-- the bytes that a server with a disk of this size answers
abbrev pub answered_to : ℕ → SessionPhase → Message → List ℕ
answered_to size phase (Flags flags) = []
answered_to size phase (Chooses h bytes) = replies_to size (zeros_in phase) h.choice bytes
answered_to size phase (Asks x) = reply_of x.header.cookie x.became

-- what the disk was asked for by then, behind what it was asked before
abbrev pub asked_by : Message → List (DiskRequest × DiskAnswer) → List (DiskRequest × DiskAnswer)
asked_by (Asks x) before = asked_behind x.became before
asked_by _ before = before

abbrev pub stops_by_message : Message → ℕ → ℕ
stops_by_message (Asks x) before = stops_behind x.became before
stops_by_message _ before = before

-- of all messages, the newest first: where the two stand
abbrev pub phase_of : List Message → SessionPhase
phase_of [] = Opening
phase_of (message ∷ before) = phase_behind (phase_of before) message

-- that each came where there is such a message
abbrev pub AreMessages : OnCut → List Message → Type 0
AreMessages mode [] = Unit {0}
AreMessages mode (message ∷ before) = IsMessage mode (phase_of before) message × AreMessages mode before

-- the bytes that the client sent
abbrev pub sent : List Message → List ℕ
sent [] = []
sent (message ∷ before) = sent before ++ sent_by message

-- the bytes that the server sent: a greeting, and its answers in order
abbrev pub answered : ℕ → List Message → List ℕ
answered size [] = greeting
answered size (message ∷ before) = answered size before ++ answered_to size (phase_of before) message

-- what the disk was asked for and answered, behind what it was asked before
abbrev pub asked : List Message → List (DiskRequest × DiskAnswer) → List (DiskRequest × DiskAnswer)
asked [] earlier = earlier
asked (message ∷ before) earlier = asked_by message (asked before earlier)

-- how many of its answers were stopped, other than for want of memory
abbrev pub stops_of_all : List Message → ℕ
stops_of_all [] = 0
stops_of_all (message ∷ before) = stops_by_message message (stops_of_all before)
