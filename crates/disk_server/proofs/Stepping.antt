-- One message is read and answered, where the client and the server stand so.
use Rattle.std.proofs.Common.{◌≡◌, ◌≢◌, ℕ, Bool, true, inl, inr, Option, List, [], ◌∷◌, ◌++◌, length, refl, sym, ap, ◌∙◌, subst}
use Rattle.std.specs.{Io.KnownBytes.Appends, Prelude.{Result, Ok, Err}}
use Rattle.pcm_io.specs.{Faults.Rose, Giving.AppendsPrefix, Taking.Takes, declared.fault.WriteFault.WriteFault}
use Rattle.pcm_io.proofs.ByteLemmas.{Appends-nothing, Takes-nothing}
use Rattle.atomic_sectors.{specs.Lines.Write, specs.Stops.RoseBy, specs.declared.layout.Layout.Layout, proofs.Stopping.rose-none}
use Rattle.disk_rules.specs.{Standing.disk_size, declared.DiskAnswer.DiskAnswer, declared.DiskRequest.DiskRequest}
use Rattle.disk_bytes.specs.Serving.{IsServed}
use Rattle.nbd_frames.specs.{Numbers.four, Options.{IsOption, are_known, option_bytes, replies_to, wants_zeros}, Requests.{IsHeader, request_bytes}}
use Rattle.nbd_frames.specs.{declared.handshake.Choice.Choice, declared.handshake.OptionHeader.OptionHeader, declared.replies.Failure.Failure}
use Rattle.nbd_frames.specs.{declared.request.Command.TheVariants.Disconnect, declared.request.RequestHeader.RequestHeader}
use Rattle.disk_server.specs.{Answering.{IsAnswered, WritesOr}, Endings.NoneFollows, Exchanges.{Brings, payload_of, reply_of}}
use Rattle.disk_server.specs.{Messages.{Asks, behind_option, Chooses, Flags, IsMessage, Message, asked, stops_of_all, zeros_in}, Sessions.{Answers, Comes, Seen, Serves, StopsBy}}
use Rattle.disk_server.specs.{declared.answering.OnCut.OnCut, declared.phase.SessionPhase.SessionPhase, declared.phase.SessionPhase.TheVariants.{Opening, Choosing, Serving, Over}}
use Rattle.disk_server.specs.declared.phase.Ended.TheVariants as by

-- the zeros are those that the client wants, and the size is the disk's
pub replies_same : (phase : SessionPhase) (zeros : Bool) (size its : ℕ) (choice : Choice) (bytes : List ℕ) → phase ≡ Choosing zeros → its ≡ size
    → replies_to its zeros choice bytes ≡ replies_to size (zeros_in phase) choice bytes
replies_same phase zeros size its choice bytes is same =
    ap (λ (s : ℕ). replies_to s zeros choice bytes) same ∙ ap (λ (z : Bool). replies_to size z choice bytes) (sym (ap zeros_in is))

module _ (n : ℕ) (layout : Layout) (was now : Seen) where
  -- a disk that isn't asked
  pub idle : (messages : List Message) → now.made ≡ was.made → now.stops ≡ was.stops → ((earlier : List (DiskRequest × DiskAnswer)) → asked messages earlier ≡ earlier)
      → stops_of_all messages ≡ 0 → Serves n layout was now messages
  idle messages made stops none never = record {
    answers = λ earlier served.
        subst (λ (all : List (DiskRequest × DiskAnswer)). IsServed n layout all now.made) (sym (none earlier))
        (subst (λ (ws : List Write). IsServed n layout earlier ws) (sym made) served);
    stops = subst (λ (k : ℕ). RoseBy k was.stops now.stops) (sym never) (subst (λ (s : ℕ). RoseBy 0 was.stops s) (sym stops) (rose-none was.stops));
  }

  module _ (mode : OnCut) (phase : SessionPhase) where
    abbrev flags_come : phase ≡ Opening → (flags : ℕ) → are_known flags ≡ true → Takes was.left now.left was.taken now.taken (four flags)
        → now.made ≡ was.made → now.stops ≡ was.stops → Comes n layout mode phase was now
    flags_come is flags known takes made stops = record {
      message = Flags flags;
      is = subst (λ (p : SessionPhase). IsMessage mode p (Flags flags)) (sym is) known;
      takes = takes;
      serves = idle (Flags flags ∷ []) made stops (λ earlier. refl) refl;
    }

    pub flags_answered : phase ≡ Opening → (flags : ℕ) → are_known flags ≡ true → Takes was.left now.left was.taken now.taken (four flags)
        → now.made ≡ was.made → now.stops ≡ was.stops → now.written ≡ was.written → Answers n layout mode phase was now (Choosing (wants_zeros flags))
    flags_answered is flags known takes made stops written = (
      flags_come is flags known takes made stops,
      refl,
      subst (λ (text : Option (List ℕ)). Appends was.written text []) (sym written) (Appends-nothing was.written),
    )

    abbrev option_comes : (zeros : Bool) → phase ≡ Choosing zeros → (h : OptionHeader) (bytes : List ℕ) → IsOption h → length bytes ≡ h.size
        → Takes was.left now.left was.taken now.taken (option_bytes h ++ bytes) → now.made ≡ was.made → now.stops ≡ was.stops → Comes n layout mode phase was now
    option_comes zeros is h bytes lawful size takes made stops = record {
      message = Chooses h bytes;
      is = subst (λ (p : SessionPhase). IsMessage mode p (Chooses h bytes)) (sym is) (lawful, size);
      takes = takes;
      serves = idle (Chooses h bytes ∷ []) made stops (λ earlier. refl) refl;
    }

    -- an option came, of which the disk knows nothing
    module _ (zeros : Bool) (is : phase ≡ Choosing zeros) (h : OptionHeader) (bytes : List ℕ) (lawful : IsOption h) (size : length bytes ≡ h.size)
        (takes : Takes was.left now.left was.taken now.taken (option_bytes h ++ bytes)) (made : now.made ≡ was.made) (stops : now.stops ≡ was.stops)
        (its : ℕ) (same : its ≡ disk_size n layout) where
      pub option_answered : (next : SessionPhase) → next ≡ behind_option (Choosing zeros) h.choice bytes
          → Appends was.written now.written (replies_to its zeros h.choice bytes) → Answers n layout mode phase was now next
      option_answered next follows appends = (
        option_comes zeros is h bytes lawful size takes made stops,
        follows ∙ ap (λ (p : SessionPhase). behind_option p h.choice bytes) (sym is),
        subst (λ (text : List ℕ). Appends was.written now.written text) (replies_same phase zeros (disk_size n layout) its h.choice bytes is same) appends,
      )

      pub option_unanswered : AppendsPrefix was.written now.written (replies_to its zeros h.choice bytes) → Rose was.unwritten now.unwritten
          → StopsBy n layout mode phase was now by.Unwritten
      option_unanswered appends rose = inl (
        option_comes zeros is h bytes lawful size takes made stops,
        refl,
        rose,
        subst (λ (text : List ℕ). AppendsPrefix was.written now.written text) (replies_same phase zeros (disk_size n layout) its h.choice bytes is same) appends,
      )

    abbrev request_comes : phase ≡ Serving → (h : RequestHeader) (bytes : List ℕ) (request : Result DiskRequest Failure) (result : Result (Unit {0}) WriteFault) → IsHeader h
        → h.command ≢ Disconnect → length bytes ≡ payload_of h.command h.size → Takes was.left now.left was.taken now.taken (request_bytes h ++ bytes) → Brings h bytes request
        → IsAnswered n layout mode h request was.made now.made was.stops now.stops was.written now.written result → Comes n layout mode phase was now
    request_comes is h bytes request result lawful stays size takes brings answered = record {
      message = Asks (record { header = h; bytes = bytes; became = answered.became });
      is = subst (λ (p : SessionPhase). IsMessage mode p (Asks (record { header = h; bytes = bytes; became = answered.became }))) (sym is)
          (record { header = lawful; stays = stays; size = size; became = answered.becomes bytes brings });
      takes = takes;
      serves = record { answers = answered.answers; stops = answered.stops };
    }

    -- a request came, and became what it became
    module _ (is : phase ≡ Serving) (h : RequestHeader) (bytes : List ℕ) (request : Result DiskRequest Failure) (lawful : IsHeader h) (stays : h.command ≢ Disconnect)
        (size : length bytes ≡ payload_of h.command h.size) (takes : Takes was.left now.left was.taken now.taken (request_bytes h ++ bytes)) (brings : Brings h bytes request)
        (result : Result (Unit {0}) WriteFault) (answered : IsAnswered n layout mode h request was.made now.made was.stops now.stops was.written now.written result) where
      pub request_answered : (done : Unit {0}) → result ≡ Ok done → (next : SessionPhase) → next ≡ Serving → Answers n layout mode phase was now next
      request_answered done ok next same = (
        request_comes is h bytes request result lawful stays size takes brings answered,
        same ∙ sym is,
        subst (λ (r : Result (Unit {0}) WriteFault). WritesOr r was.written now.written (reply_of h.cookie answered.became)) ok answered.writes,
      )

      pub request_unanswered : (fault : WriteFault) → result ≡ Err fault → Rose was.unwritten now.unwritten → StopsBy n layout mode phase was now by.Unwritten
      request_unanswered fault failed rose = inl (
        request_comes is h bytes request result lawful stays size takes brings answered,
        refl,
        rose,
        subst (λ (r : Result (Unit {0}) WriteFault). WritesOr r was.written now.written (reply_of h.cookie answered.became)) failed answered.writes,
      )

    -- the client left before
    pub none_left : phase ≡ Over → now.left ≡ was.left → now.taken ≡ was.taken → now.written ≡ was.written → now.made ≡ was.made → now.stops ≡ was.stops
        → StopsBy n layout mode phase was now by.Left
    none_left is left taken written made stops = inr (
      [],
      subst (λ (l : Option (List ℕ)). Takes was.left l was.taken now.taken []) (sym left)
          (subst (λ (t : ℕ). Takes was.left was.left was.taken t []) (sym taken) (Takes-nothing was.left was.taken)),
      subst (λ (p : SessionPhase). NoneFollows by.Left p [] now.left was.unread now.unread) (sym is) refl,
      subst (λ (text : Option (List ℕ)). Appends was.written text []) (sym written) (Appends-nothing was.written),
      idle [] made stops (λ earlier. refl) refl,
    )
