-- A request that came is answered.
use Rattle.std.specs.{Io.KnownBytes.Appends, Prelude.{ℕ, List, Option, Result, Ok, Err}}
use Rattle.pcm_io.specs.{Giving.AppendsPrefix, declared.fault.WriteFault.WriteFault}
use Rattle.atomic_sectors.specs.{Lines.Write, Stops.RoseBy, declared.layout.Layout.Layout}
use Rattle.disk_rules.specs.{declared.DiskAnswer.DiskAnswer, declared.DiskRequest.DiskRequest}
use Rattle.disk_bytes.specs.Serving.{IsServed}
use Rattle.nbd_frames.specs.{declared.replies.Failure.Failure, declared.request.RequestHeader.RequestHeader}
use Rattle.disk_server.specs.{Exchanges.{Becomes, Brings, Rides, Served, asked_behind, reply_of, stops_behind}, declared.answering.OnCut.OnCut}

-- a disk was asked, and again behind each cut where it rides through them
pub record IsAsked (n : ℕ) (layout : Layout) (mode : OnCut) (request : DiskRequest) (made_was made_now : List Write) (stops_was stops_now : ℕ)
    (answer : DiskAnswer) : Type 0 where
  pub cuts : ℕ
  pub rides : Rides mode (record { request = request; cuts = cuts; answer = answer })
  pub answers : (earlier : List (DiskRequest × DiskAnswer)) → IsServed n layout earlier made_was
      → IsServed n layout (asked_behind (Ok (record { request = request; cuts = cuts; answer = answer })) earlier) made_now
  pub stops : RoseBy (stops_behind (Ok (record { request = request; cuts = cuts; answer = answer })) 0) stops_was stops_now

-- this was written, or some first bytes of it where writing failed
abbrev pub WritesOr : Result (Unit {0}) WriteFault → Option (List ℕ) → Option (List ℕ) → List ℕ → Type 0
WritesOr (Ok done) was now bytes = Appends was now bytes
WritesOr (Err fault) was now bytes = AppendsPrefix was now bytes

-- this became of it, and the client was told so
pub record IsAnswered (n : ℕ) (layout : Layout) (mode : OnCut) (h : RequestHeader) (request : Result DiskRequest Failure)
    (made_was made_now : List Write) (stops_was stops_now : ℕ) (written_was written_now : Option (List ℕ)) (result : Result (Unit {0}) WriteFault) : Type 0 where
  pub became : Result Served Failure
  pub becomes : (bytes : List ℕ) → Brings h bytes request → Becomes mode h bytes became
  pub answers : (earlier : List (DiskRequest × DiskAnswer)) → IsServed n layout earlier made_was → IsServed n layout (asked_behind became earlier) made_now
  pub stops : RoseBy (stops_behind became 0) stops_was stops_now
  pub writes : WritesOr result written_was written_now (reply_of h.cookie became)
