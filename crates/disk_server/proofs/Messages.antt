-- One message more.
use Rattle.std.proofs.Common.{◌≡◌, ℕ, ◌+◌, ◌≤◌, List, [], ◌∷◌, Option, refl, sym, subst, inl, inr, arith}
use Rattle.std.{specs.Io.KnownBytes.Appends, specs.Prelude.{Ok, Err}, proofs.lemmas.List.append-nil}
use Rattle.pcm_io.{specs.Faults.Rose, specs.Giving.AppendsPrefix, specs.Taking.Takes, proofs.ByteLemmas.{Appends-Appends, Appends-AppendsPrefix, Takes-Takes, Takes-nothing}}
use Rattle.atomic_sectors.{specs.Stops.RoseBy, specs.declared.layout.Layout.Layout, proofs.Stopping.rose-both}
use Rattle.disk_rules.specs.Standing.{disk_size}
use Rattle.nbd_frames.specs.Options.{greeting}
use Rattle.disk_server.specs.{Endings.NoneFollows, Exchanges.stops_behind}
use Rattle.disk_server.specs.Messages.{AreMessages, Message, Flags, Chooses, Asks, answered, asked, phase_of, sent, sent_by, stops_by_message, stops_of_all}
use Rattle.disk_server.specs.{Sessions.{Answers, EndsBy, IsSession, IsUnanswered, IsWithout, Seen, Serves, StopsBy, Writes}, declared.answering.OnCut.OnCut}
use Rattle.disk_server.{specs.declared.phase.Ended.Ended, specs.declared.phase.SessionPhase.SessionPhase, proofs.Stepping.idle}
use Rattle.disk_server.specs.declared.phase.Ended.TheVariants as by

-- a message adds its stops to those before
stops_add : (message : Message) (before : ℕ) → stops_by_message message before ≡ before + stops_by_message message 0
stops_add (Flags flags) before = omega arith
stops_add (Chooses h bytes) before = omega arith
stops_add (Asks x) before = elim x.became as (λ became. stops_behind became before ≡ before + stops_behind became 0) [
  | Ok s ↦ omega arith
  | Err failure ↦ omega arith
]

module _ (n : ℕ) (layout : Layout) where
  serves_more : (was mid now : Seen) (message : Message) (before : List Message) → Serves n layout was mid before → Serves n layout mid now (message ∷ [])
      → Serves n layout was now (message ∷ before)
  serves_more was mid now message before had has = record {
    answers = λ earlier served. has.answers (asked before earlier) (had.answers earlier served);
    stops = subst (λ (k : ℕ). RoseBy k was.stops now.stops) (sym (stops_add message (stops_of_all before)))
        (rose-both (stops_of_all before) (stops_by_message message 0) was.stops mid.stops now.stops had.stops has.stops);
  }

  serves_none : (was mid now : Seen) (before : List Message) → Serves n layout was mid before → Serves n layout mid now [] → Serves n layout was now before
  serves_none was mid now before had has = record {
    answers = λ earlier served. has.answers (asked before earlier) (had.answers earlier served);
    stops = subst (λ (k : ℕ). RoseBy k was.stops now.stops) (omega arith)
        (rose-both (stops_of_all before) 0 was.stops mid.stops now.stops had.stops has.stops);
  }

  module _ (mode : OnCut) where
    -- so far these messages came and were answered
    pub record Has (was now : Seen) (messages : List Message) : Type 0 where
      pub in_order : AreMessages mode messages
      pub takes : Takes was.left now.left was.taken now.taken (sent messages)
      pub writes : Appends was.written now.written (answered (disk_size n layout) messages)
      pub serves : Serves n layout was now messages
      pub unread : was.unread ≤ now.unread
      pub unwritten : was.unwritten ≤ now.unwritten

    module _ (was mid now : Seen) (before : List Message) (had : Has was mid before) where
      takes_more : (message : Message) → Takes mid.left now.left mid.taken now.taken (sent_by message) → Takes was.left now.left was.taken now.taken (sent (message ∷ before))
      takes_more message takes =
          Takes-Takes was.left mid.left now.left was.taken mid.taken now.taken (sent before) (sent_by message) had.takes takes

      pub has_more : (next : SessionPhase) → Answers n layout mode (phase_of before) mid now next → mid.unread ≤ now.unread → mid.unwritten ≤ now.unwritten
          → (message : Message) × Has was now (message ∷ before) × (next ≡ phase_of (message ∷ before))
      has_more next answers unread unwritten =
          let comes = answers.0 in
          let message = comes.message in (
            message,
            record {
              in_order = (comes.is, had.in_order);
              takes = takes_more message comes.takes;
              writes = Appends-Appends was.written mid.written now.written (answered (disk_size n layout) before) _ had.writes answers.2;
              serves = serves_more was mid now message before had.serves comes.serves;
              unread = omega (arith, had.unread);
              unwritten = omega (arith, had.unwritten);
            },
            answers.1,
          )

      follows : (ended : Ended) (rest : List ℕ) → NoneFollows ended (phase_of before) rest now.left mid.unread now.unread → EndsBy ended before rest was now
      follows by.Left rest none = none
      follows by.Closed rest none = none
      follows by.Broken rest none = none
      follows by.Strange rest none = none
      follows by.Unread rest none = (none.0, omega (arith, had.unread, none.1))
      follows by.Unwritten rest none = absurd none
      follows by.Endless rest none = absurd none

      wrote : (ended : Ended) (rest : List ℕ) → NoneFollows ended (phase_of before) rest now.left mid.unread now.unread
          → Appends was.written now.written (answered (disk_size n layout) before) → Writes ended was now (answered (disk_size n layout) before)
      wrote by.Left rest none appends = appends
      wrote by.Closed rest none appends = appends
      wrote by.Broken rest none appends = appends
      wrote by.Strange rest none appends = appends
      wrote by.Unread rest none appends = appends
      wrote by.Unwritten rest none appends = absurd none
      wrote by.Endless rest none appends = absurd none

      no_more : Appends mid.written now.written [] → Appends was.written now.written (answered (disk_size n layout) before)
      no_more appends =
          subst (λ (bytes : List ℕ). Appends was.written now.written bytes) (append-nil (answered (disk_size n layout) before))
          (Appends-Appends was.written mid.written now.written (answered (disk_size n layout) before) [] had.writes appends)

      ends_without : (ended : Ended) → IsWithout n layout mode (phase_of before) mid now ended → IsSession n layout mode was now ended
      ends_without ended none = record {
        messages = before;
        in_order = had.in_order;
        rest = none.0;
        takes = Takes-Takes was.left mid.left now.left was.taken mid.taken now.taken (sent before) none.0 had.takes none.1;
        ends = follows ended none.0 none.2;
        writes = wrote ended none.0 none.2 (no_more none.3);
        serves = serves_none was mid now before had.serves none.4;
      }

      ends_unanswered : (ended : Ended) → IsUnanswered n layout mode (phase_of before) mid now ended → IsSession n layout mode was now ended
      ends_unanswered ended unanswered =
          let comes = unanswered.0 in
          let message = comes.message in
          let session : IsSession n layout mode was now by.Unwritten = record {
            messages = message ∷ before;
            in_order = (comes.is, had.in_order);
            rest = [];
            takes = subst (λ (bytes : List ℕ). Takes was.left now.left was.taken now.taken bytes) (sym (append-nil (sent (message ∷ before)))) (takes_more message comes.takes);
            ends = (refl, omega (arith, had.unwritten, unanswered.2));
            writes = Appends-AppendsPrefix was.written mid.written now.written (answered (disk_size n layout) before) _ had.writes unanswered.3;
            serves = serves_more was mid now message before had.serves comes.serves;
          } in
          subst (λ (e : Ended). IsSession n layout mode was now e) (sym unanswered.1) session

      pub ends_so : (ended : Ended) → StopsBy n layout mode (phase_of before) mid now ended → IsSession n layout mode was now ended
      ends_so ended stops = elim stops [
        | inl unanswered ↦ ends_unanswered ended unanswered
        | inr none ↦ ends_without ended none
      ]

      -- the same, by another name of the layout and of where the two stand
      module _ (its : Layout) (phase : SessionPhase) (layout_is : its ≡ layout) (phase_is : phase ≡ phase_of before) where
        pub ends_at : (ended : Ended) → StopsBy n its mode phase mid now ended → IsSession n layout mode was now ended
        ends_at ended stops =
            ends_so ended (subst (λ (l : Layout). StopsBy n l mode (phase_of before) mid now ended) layout_is
            (subst (λ (p : SessionPhase). StopsBy n its mode p mid now ended) phase_is stops))

        pub more_at : (next : SessionPhase) → Answers n its mode phase mid now next → mid.unread ≤ now.unread → mid.unwritten ≤ now.unwritten
            → (message : Message) × Has was now (message ∷ before) × (next ≡ phase_of (message ∷ before))
        more_at next answers unread unwritten =
            has_more next (subst (λ (l : Layout). Answers n l mode (phase_of before) mid now next) layout_is
            (subst (λ (p : SessionPhase). Answers n its mode p mid now next) phase_is answers)) unread unwritten

    -- a greeting was written, or it wasn't written whole
    module _ (was now : Seen) (left : now.left ≡ was.left) (taken : now.taken ≡ was.taken) (made : now.made ≡ was.made) (stops : now.stops ≡ was.stops) where
      takes_none : Takes was.left now.left was.taken now.taken []
      takes_none =
          subst (λ (l : Option (List ℕ)). Takes was.left l was.taken now.taken []) (sym left)
          (subst (λ (t : ℕ). Takes was.left was.left was.taken t []) (sym taken) (Takes-nothing was.left was.taken))

      pub has_begun : Appends was.written now.written greeting → was.unread ≤ now.unread → was.unwritten ≤ now.unwritten → Has was now []
      has_begun writes unread unwritten = record {
        in_order = tt;
        takes = takes_none;
        writes = writes;
        serves = idle n layout was now [] made stops (λ earlier. refl) refl;
        unread = unread;
        unwritten = unwritten;
      }

      pub not_begun : AppendsPrefix was.written now.written greeting → Rose was.unwritten now.unwritten → IsSession n layout mode was now by.Unwritten
      not_begun writes rose = record {
        messages = [];
        in_order = tt;
        rest = [];
        takes = takes_none;
        ends = (refl, rose);
        writes = writes;
        serves = idle n layout was now [] made stops (λ earlier. refl) refl;
      }
