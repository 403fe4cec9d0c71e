-- What a server promises of the session of a client.
use Rattle.std.specs.{Io.KnownBytes.Appends, Prelude.{◌≡◌, ◌⊎◌, ℕ, ◌-◌, ◌^◌, List, [], ◌∷◌, ◌++◌, length, Option}}
use Rattle.pcm_io.specs.{Faults.Rose, Giving.AppendsPrefix, Taking.Takes}
use Rattle.atomic_sectors.specs.{Lines.Write, Stops.RoseBy, declared.layout.Layout.Layout}
use Rattle.disk_rules.specs.{Standing.disk_size, declared.DiskAnswer.DiskAnswer, declared.DiskRequest.DiskRequest}
use Rattle.disk_bytes.specs.Serving.{IsServed}
use Rattle.disk_server.specs.{Endings.NoneFollows, Messages.{AreMessages, IsMessage, Message, answered, answered_to, asked, phase_behind, phase_of, sent, sent_by, stops_of_all}}
use Rattle.disk_server.specs.{declared.answering.OnCut.OnCut, declared.phase.Ended.Ended, declared.phase.SessionPhase.SessionPhase}
use Rattle.disk_server.specs.declared.phase.Ended.TheVariants as by

-- what is seen, at some moment, of a source, a sink and the lines of a disk
pub record Seen : Type 0 where
  pub left : Option (List ℕ)
  pub taken : ℕ
  pub unread : ℕ
  pub written : Option (List ℕ)
  pub unwritten : ℕ
  pub made : List Write
  pub stops : ℕ

-- by what each of these shows of itself
abbrev pub seen : {S K L : Type 0} → (S → Option (List ℕ)) → (S → ℕ) → (S → ℕ) → (K → Option (List ℕ)) → (K → ℕ) → (L → List Write) → (L → ℕ) → S → K → L → Seen
seen left taken unread written unwritten made stops source sink lines = record {
  left = left source;
  taken = taken source;
  unread = unread source;
  written = written sink;
  unwritten = unwritten sink;
  made = made lines;
  stops = stops lines;
}

-- the most messages of a session
abbrev pub most_messages : ℕ
most_messages = 2 ^ 64 - 1

-- how a session of these messages ended: what came behind the last one that was whole, and why no other was answered
abbrev pub EndsBy : Ended → List Message → List ℕ → Seen → Seen → Type 0
EndsBy by.Unwritten messages bytes was now = (bytes ≡ []) × Rose was.unwritten now.unwritten
EndsBy by.Endless messages bytes was now = (bytes ≡ []) × (length messages ≡ most_messages)
EndsBy ended messages bytes was now = NoneFollows ended (phase_of messages) bytes now.left was.unread now.unread

-- these bytes were written, or some first ones of them where writing failed
abbrev pub Writes : Ended → Seen → Seen → List ℕ → Type 0
Writes by.Unwritten was now bytes = AppendsPrefix was.written now.written bytes
Writes ended was now bytes = Appends was.written now.written bytes

module _ (n : ℕ) (layout : Layout) where
  -- the answers to these messages are those of the disk: behind all that it was asked before, some writes were made by which it is so. No more of
  -- them were stopped, but for want of memory, than calls of the lines were
  pub record Serves (was now : Seen) (messages : List Message) : Type 0 where
    pub answers : (earlier : List (DiskRequest × DiskAnswer)) → IsServed n layout earlier was.made → IsServed n layout (asked messages earlier) now.made
    pub stops : RoseBy (stops_of_all messages) was.stops now.stops

  -- the bytes that came are exactly these messages, in order, and what stands behind the last that was whole; the bytes that went are
  -- exactly a greeting and the answers to them; and these are the disk's
  pub record IsSession (mode : OnCut) (was now : Seen) (ended : Ended) : Type 0 where
    pub messages : List Message
    pub in_order : AreMessages mode messages
    pub rest : List ℕ
    pub takes : Takes was.left now.left was.taken now.taken (sent messages ++ rest)
    pub ends : EndsBy ended messages rest was now
    pub writes : Writes ended was now (answered (disk_size n layout) messages)
    pub serves : Serves was now messages

  -- one message more, where the client and the server stand so: it came whole
  pub record Comes (mode : OnCut) (phase : SessionPhase) (was now : Seen) : Type 0 where
    pub message : Message
    pub is : IsMessage mode phase message
    pub takes : Takes was.left now.left was.taken now.taken (sent_by message)
    pub serves : Serves was now (message ∷ [])

  module _ (mode : OnCut) (phase : SessionPhase) (was now : Seen) where
    -- and it was answered, so that the two stand so
    abbrev pub Answers : SessionPhase → Type 0
    Answers next = (comes : Comes mode phase was now) × (next ≡ phase_behind phase comes.message)
        × Appends was.written now.written (answered_to (disk_size n layout) phase comes.message)

    -- or its answer wasn't written whole
    abbrev pub IsUnanswered : Ended → Type 0
    IsUnanswered ended = (comes : Comes mode phase was now) × (ended ≡ by.Unwritten) × Rose was.unwritten now.unwritten
        × AppendsPrefix was.written now.written (answered_to (disk_size n layout) phase comes.message)

    -- or none came, and none was answered
    abbrev pub IsWithout : Ended → Type 0
    IsWithout ended = (rest : List ℕ) × Takes was.left now.left was.taken now.taken rest × NoneFollows ended phase rest now.left was.unread now.unread
        × Appends was.written now.written [] × Serves was now []

    abbrev pub StopsBy : Ended → Type 0
    StopsBy ended = IsUnanswered ended ⊎ IsWithout ended
