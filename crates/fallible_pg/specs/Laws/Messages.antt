-- The runs of messages are their definition.
use Rattle.std.specs.Prelude.{◌≡◌, ℕ, ◌+◌, Bool, List, [], ◌∷◌, ◌++◌, map, length, Option, Some, None, Ok, Err}
use Rattle.std.specs.List.{concat}
use Rattle.std.proofs.Common.{refl, sym, ap, subst, ◌∙◌, arith, length-append}
use Rattle.std.proofs.lemmas.List.Elements.{All-nil, All-cons}
use Rattle.program_io.specs.Bytes.{GivesByte, GivesBytes}
use Rattle.fallible_iterator.specs.Traces.{Answered, Run, item, end}
use Rattle.fallible_iterator.specs.Contract.{Lawful}
use Rattle.fallible_iterator.specs.Laws.BoundsRuns.{lawful_unbounded}
use Rattle.fallible_iterator.specs.Laws.Closures.{folds_to_in_turn}
use Rattle.fallible_iterator.specs.Laws.Contract.{lawful_with_traces}
use Rattle.fallible_iterator.specs.Laws.LawForm.{IsTraced}
use Rattle.fallible_iterator.proofs.Lemmas.Callers.{turns_split}
use Rattle.fallible_pg.specs.Messages.{message_bytes}
use Rattle.fallible_pg.specs.Reading.{DrawsMessage, message_step}
use Rattle.fallible_pg.specs.Rows.{all_bytes}
use Rattle.fallible_pg.specs.Sizes.{IsMessage}
use Rattle.fallible_pg.specs.Traces.{AllEnds, NoMessageComes, MessagesCome, MessagesTrace, messages_contract}
use Rattle.fallible_pg.specs.declared.fault.PgFault.{PgFault}
use Rattle.fallible_pg.specs.declared.message.Message.{Message}

module _ {R : Type 0} (left : R → Option (List ℕ)) (stays : Bool → R → R → Type 0) (no_room : List ℕ → Type 0) where
  abbrev Parts : Type 0
  Parts = R × Option ℕ

  abbrev Steps : Parts → Answered Message PgFault → Parts → Type 0
  Steps = message_step left stays no_room

  -- ---- once no message can be found

  ends_of_run : (r : R) (trace : List (Answered Message PgFault)) (q : Parts) → Run Steps (r, None) trace q → AllEnds trace × (q ≡ (r, None))
  ends_of_run r [] q ran = (tt, sym ran)
  ends_of_run r (a ∷ rest) q ran = let h = ends_of_run r rest q (subst (λ (u : Parts). Run Steps u rest q) ran.1.1 ran.2) in ((ran.1.0, h.0), h.1)

  run_of_ends : (r : R) (trace : List (Answered Message PgFault)) → AllEnds trace → Run Steps (r, None) trace (r, None)
  run_of_ends r [] ends = refl
  run_of_ends r (a ∷ rest) ends = ((r, None), (ends.0, refl), run_of_ends r rest ends.1)

  -- ---- what comes of the reader

  moved : (r : R) (trace : List (Answered Message PgFault)) (q : Parts) {n k : ℕ} → n ≡ k → NoMessageComes left stays no_room r n trace q → NoMessageComes left stays no_room r k trace q
  moved r trace q same h = subst (λ (n : ℕ). NoMessageComes left stays no_room r n trace q) same h

  no_message : (r : R) (place : ℕ) (trace : List (Answered Message PgFault)) (q : Parts) → NoMessageComes left stays no_room r place trace q → MessagesCome left stays no_room r place trace q
  no_message r place trace q h = record { messages = []; each = All-nil IsMessage; middle = r; given = refl; others = trace; answers = refl; last = moved r trace q (omega arith) h }

  message_first : (r u : R) (place : ℕ) (m : Message) (rest : List (Answered Message PgFault)) (q : Parts) → GivesBytes left stays r (message_bytes m) u → MessagesCome left stays no_room u (place + length (message_bytes m)) rest q → MessagesCome left stays no_room r place (item m ∷ rest) q
  message_first r u place m rest q given h = record {
    messages = m ∷ h.messages;
    each = All-cons IsMessage (message_bytes m) (all_bytes h.messages) m.whole h.each;
    middle = h.middle;
    given = folds_to_in_turn (GivesByte left stays) (message_bytes m) (concat (all_bytes h.messages)) r u h.middle given h.given;
    others = h.others;
    answers = ap (λ l. item m ∷ l) h.answers;
    last = moved h.middle h.others q (omega (arith, length-append (message_bytes m) (concat (all_bytes h.messages)))) h.last;
  }

  come_of_run : (r : R) (place : ℕ) (trace : List (Answered Message PgFault)) (q : Parts) → Run Steps (r, Some place) trace q → MessagesCome left stays no_room r place trace q
  come_of_run r place [] q ran = no_message r place [] q (sym ran)
  come_of_run r place (Ok (Some m) ∷ rest) q ran = let u = ran.0 in message_first r u.0 place m rest q ran.1.0 (come_of_run u.0 (place + length (message_bytes m)) rest q (subst (λ (o : Option ℕ). Run Steps (u.0, o) rest q) ran.1.2 ran.2))
  come_of_run r place (Ok None ∷ rest) q ran =
      let u = ran.0 in
      let h = ends_of_run u.0 rest q (subst (λ (o : Option ℕ). Run Steps (u.0, o) rest q) ran.1.0 ran.2) in
      let same : u ≡ q = ap (λ (o : Option ℕ). (u.0, o)) ran.1.0 ∙ sym h.1 in
      no_message r place (end ∷ rest) q (subst (λ (v : Parts). DrawsMessage left stays no_room r place end v) same ran.1, h.0)
  come_of_run r place (Err fault ∷ rest) q ran =
      let u = ran.0 in
      let h = ends_of_run u.0 rest q (subst (λ (o : Option ℕ). Run Steps (u.0, o) rest q) ran.1.0 ran.2) in
      let same : u ≡ q = ap (λ (o : Option ℕ). (u.0, o)) ran.1.0 ∙ sym h.1 in
      no_message r place (Err fault ∷ rest) q (subst (λ (v : Parts). DrawsMessage left stays no_room r place (Err fault) v) same ran.1, h.0)

  run_after_last : (r : R) (place : ℕ) (last : Answered Message PgFault) (ends : List (Answered Message PgFault)) (q : Parts) → DrawsMessage left stays no_room r place last q → q.1 ≡ None → AllEnds ends → Run Steps (r, Some place) (last ∷ ends) q
  run_after_last r place last ends q drawn none all = (q, drawn, subst (λ (o : Option ℕ). Run Steps (q.0, o) ends (q.0, o)) (sym none) (run_of_ends q.0 ends all))

  run_of_none : (r : R) (place : ℕ) (trace : List (Answered Message PgFault)) (q : Parts) → NoMessageComes left stays no_room r place trace q → Run Steps (r, Some place) trace q
  run_of_none r place [] q h = sym h
  run_of_none r place (Ok (Some m) ∷ ends) q h = absurd h
  run_of_none r place (Ok None ∷ ends) q h = run_after_last r place end ends q h.0 h.0.0 h.1
  run_of_none r place (Err fault ∷ ends) q h = run_after_last r place (Err fault) ends q h.0 h.0.0 h.1

  run_of_messages : (messages : List Message) (r middle : R) (place : ℕ) (others : List (Answered Message PgFault)) (q : Parts) → GivesBytes left stays r (concat (all_bytes messages)) middle → NoMessageComes left stays no_room middle (place + length (concat (all_bytes messages))) others q → Run Steps (r, Some place) (map item messages ++ others) q
  run_of_messages [] r middle place others q given h = subst (λ (u : R). Run Steps (u, Some place) others q) (sym given) (run_of_none middle place others q (moved middle others q (omega arith) h))
  run_of_messages (m ∷ messages) r middle place others q given h =
      let both = turns_split (GivesByte left stays) (message_bytes m) (concat (all_bytes messages)) r middle given in
      ((both.0, Some (place + length (message_bytes m))), (both.1, m.whole, refl), run_of_messages messages both.0 middle (place + length (message_bytes m)) others q both.2 (moved middle others q (omega (arith, length-append (message_bytes m) (concat (all_bytes messages)))) h))

  -- ---- the definition

  pub messages_traced : IsTraced Steps (MessagesTrace left stays no_room)
  messages_traced (r, Some place) trace q = (
    come_of_run r place trace q,
    (λ h. subst (λ (l : List (Answered Message PgFault)). Run Steps (r, Some place) l q) (sym h.answers) (run_of_messages h.messages r h.middle place h.others q h.given h.last)),
  )
  messages_traced (r, None) trace q = (
    ends_of_run r trace q,
    (λ h. subst (λ (v : Parts). Run Steps (r, None) trace v) (sym h.1) (run_of_ends r trace h.0)),
  )

  pub lawful_messages : Lawful (messages_contract left stays no_room)
  lawful_messages = lawful_with_traces (MessagesTrace left stays no_room) messages_traced (lawful_unbounded Steps)
