-- What stays after any number of draws.
use Rattle.std.specs.Prelude.{◌↔◌, List, [], ◌∷◌, Some, None, Ok, Err}
use Rattle.std.proofs.Common.{arith, subst, refl, ◌∙◌}
use Rattle.fallible_contract.specs.Traces.{Answered, Run}
use Rattle.fallible_contract.specs.Contract.{Contract, NoMore, NoMoreRemains, OnAnswer, KeptByDraw, KeptByDraws, NeverFails, Stays, Lawful, Inverse, Replaceable, seen_as, parts_as, around}
use Rattle.fallible_contract.specs.Sound.{SoundWhere, HintsHold}
use Rattle.fallible_contract.specs.Laws.Sound.{hold_seen}
use Rattle.fallible_contract.specs.Laws.LawForm.{IsTraced, traces_are_of_parts, traces_are_around}

module _ {S A E : Type 0} (m : Contract S A E) where
  -- after any answer nothing more is to come than before
  pub no_more_after : (s t : S) (r : Answered A E) → OnAnswer m s r t → NoMore m s t
  no_more_after s t (Ok (Some x)) h n b = let k = h.1 n b in (k.0, k.1, omega (arith, k.2))
  no_more_after s t (Ok None) h n b = h.0 n b
  no_more_after s t (Err e) h n b = h.1 n b

  -- and no more remains
  pub no_more_remains_after : (s t : S) (r : Answered A E) → OnAnswer m s r t → NoMoreRemains m s t
  no_more_remains_after s t (Ok (Some x)) h f = let k = h.2 f in (k.0, omega (arith, k.1))
  no_more_remains_after s t (Ok None) h f = h.1 f
  no_more_remains_after s t (Err e) h f = let k = h.2 f in (k.0, omega (arith, k.1))

  no_more_transitive : (s t u : S) → NoMore m s t → NoMore m t u → NoMore m s u
  no_more_transitive s t u p q n b = let j = p n b in let k = q j.0 j.1 in (k.0, k.1, omega (arith, j.2, k.2))

  no_more_remains_transitive : (s t u : S) → NoMoreRemains m s t → NoMoreRemains m t u → NoMoreRemains m s u
  no_more_remains_transitive s t u p q f = let j = p f in let k = q j.0 in (k.0, omega (arith, j.1, k.1))

  -- what can never fail can't fail after a draw
  pub never_fails_after : (s t : S) (r : Answered A E) → m.steps s r t → NeverFails m s → NeverFails m t
  never_fails_after s t r step sure trace u v e ran fails = sure (r ∷ trace) u v e (t, step, ran) fails

  pub never_fails_after_run : (s : S) (trace : List (Answered A E)) (t : S) → Run m.steps s trace t → NeverFails m s → NeverFails m t
  never_fails_after_run s [] t ran never = subst (λ (u : S). NeverFails m u) ran never
  never_fails_after_run s (r ∷ rest) t ran never = never_fails_after_run ran.0 rest t ran.2 (never_fails_after s ran.0 r ran.1 never)

-- ---- draws from whichever end

module _ {S A E : Type 0} {m : Contract S A E} where
  -- one draw, whatever its answer was
  pub kept_by_draws_of_one_draw : {s t : S} {r : Answered A E} → KeptByDraw m s r t → KeptByDraws m s t
  kept_by_draws_of_one_draw {s} {t} {r} g = record {
    can_next = g.can_next;
    is_finite = g.is_finite;
    bound = no_more_after m s t r g.answer;
    remaining = no_more_remains_after m s t r g.answer;
    may_give = g.may_give;
    may_fail = g.may_fail;
    lenders = g.lenders;
  }

  -- one run of draws after another
  pub kept_by_draws_transitive : {s t u : S} → KeptByDraws m s t → KeptByDraws m t u → KeptByDraws m s u
  kept_by_draws_transitive {s} {t} {u} p q = record {
    can_next = q.can_next;
    is_finite = λ e. q.is_finite (p.is_finite e);
    bound = no_more_transitive m s t u p.bound q.bound;
    remaining = no_more_remains_transitive m s t u p.remaining q.remaining;
    may_give = λ x h. p.may_give x (q.may_give x h);
    may_fail = λ e h. p.may_fail e (q.may_fail e h);
    lenders = q.lenders ∙ p.lenders;
  }

  pub kept_by_draws_of_no_draw : {s : S} → m.can_next s → KeptByDraws m s s
  kept_by_draws_of_no_draw c = record { can_next = c; is_finite = λ e. e; bound = λ n b. (n, b, omega arith); remaining = λ f. (f, omega arith); may_give = λ x p. p; may_fail = λ e p. p; lenders = refl }

  pub kept_by_draws_run : Lawful m → (s : S) (trace : List (Answered A E)) (t : S) → m.can_next s → Run m.steps s trace t → KeptByDraws m s t
  kept_by_draws_run l s [] t c ran = subst (λ (u : S). KeptByDraws m s u) ran (kept_by_draws_of_no_draw c)
  kept_by_draws_run l s (r ∷ rest) t c ran = let g = l.kept_by_draw s r ran.0 c ran.1 in kept_by_draws_transitive (kept_by_draws_of_one_draw g) (kept_by_draws_run l ran.0 rest t g.can_next ran.2)

-- ---- draws from one end

module _ {S A E : Type 0} {m : Contract S A E} where
  pub kept_by_draws_of_stays : {s t : S} → Stays m s t → KeptByDraws m s t
  kept_by_draws_of_stays h = record { can_next = h.can_next; is_finite = h.is_finite; bound = h.bound; remaining = h.remaining; may_give = h.may_give; may_fail = h.may_fail; lenders = h.lenders }

  pub stays_of_kept_by_draws : {s t : S} → KeptByDraws m s t → (NeverFails m s → NeverFails m t) → Stays m s t
  stays_of_kept_by_draws h sure = record { can_next = h.can_next; is_finite = h.is_finite; bound = h.bound; remaining = h.remaining; may_give = h.may_give; may_fail = h.may_fail; lenders = h.lenders; sure = sure }

  -- a draw, and then those after it
  pub stays_by_draw_first : {s t u : S} {r : Answered A E} → m.steps s r t → KeptByDraw m s r t → Stays m t u → Stays m s u
  stays_by_draw_first {s} {t} {u} {r} step g h = stays_of_kept_by_draws (kept_by_draws_transitive (kept_by_draws_of_one_draw g) (kept_by_draws_of_stays h)) (λ never. h.sure (never_fails_after m s t r step never))

  pub stays_reflexive : {s : S} → m.can_next s → Stays m s s
  stays_reflexive c = stays_of_kept_by_draws (kept_by_draws_of_no_draw c) (λ never. never)

  pub stays_run : Lawful m → (s : S) (trace : List (Answered A E)) (t : S) → m.can_next s → Run m.steps s trace t → Stays m s t
  stays_run l s trace t c ran = stays_of_kept_by_draws (kept_by_draws_run l s trace t c ran) (never_fails_after_run m s trace t ran)

-- a contract lawful but for its definition is so with any that its runs are
pub lawful_with_traces : {S A E : Type 0} {m : Contract S A E} (traces : S → List (Answered A E) → S → Type 0) → IsTraced m.steps traces → Lawful m → Lawful (record m { traces = traces })
lawful_with_traces {S} {A} {E} {m = m} traces law l = record {
  kept_by_draw = λ s r t c step. kept s t r (l.kept_by_draw s r t c step);
  bounded = l.bounded;
  traced = law;
  hold = l.hold;
}
  where
    on_answer : (s t : S) (r : Answered A E) → OnAnswer m s r t → OnAnswer (record m { traces = traces }) s r t
    on_answer s t (Ok (Some x)) h = h
    on_answer s t (Ok None) h = h
    on_answer s t (Err e) h = h

    kept : (s t : S) (r : Answered A E) → KeptByDraw m s r t → KeptByDraw (record m { traces = traces }) s r t
    kept s t r g = record { can_next = g.can_next; is_finite = g.is_finite; answer = on_answer s t r g.answer; may_give = g.may_give; may_fail = g.may_fail; lenders = g.lenders }

-- with any word on where its hints are sound, if they are there
pub lawful_with_sound : {S A E : Type 0} {m : Contract S A E} {w : SoundWhere S} → HintsHold m.steps m.hints w → Lawful m → Lawful (record m { sound = w })
lawful_with_sound {S} {A} {E} {m = m} {w = w} holds l = record {
  kept_by_draw = λ s r t c step. kept s t r (l.kept_by_draw s r t c step);
  bounded = l.bounded;
  traced = l.traced;
  hold = holds;
}
  where
    on_answer : (s t : S) (r : Answered A E) → OnAnswer m s r t → OnAnswer (record m { sound = w }) s r t
    on_answer s t (Ok (Some x)) h = h
    on_answer s t (Ok None) h = h
    on_answer s t (Err e) h = h

    kept : (s t : S) (r : Answered A E) → KeptByDraw m s r t → KeptByDraw (record m { sound = w }) s r t
    kept s t r g = record { can_next = g.can_next; is_finite = g.is_finite; answer = on_answer s t r g.answer; may_give = g.may_give; may_fail = g.may_fail; lenders = g.lenders }

-- ---- a type whose values are seen as those of another

module _ {S P A E : Type 0} (m : Contract P A E) (view : S → P) (traces : S → List (Answered A E) → S → Type 0) where
  -- its contract with any definition of what it returns
  abbrev Seen : Contract S A E
  Seen = record (seen_as view m) { traces = traces }

  on_answer_seen : (s t : S) (r : Answered A E) → OnAnswer m (view s) r (view t) → OnAnswer Seen s r t
  on_answer_seen s t (Ok (Some x)) h = h
  on_answer_seen s t (Ok None) h = h
  on_answer_seen s t (Err e) h = h

  kept_by_draw_through_view : (s t : S) (r : Answered A E) → KeptByDraw m (view s) r (view t) → KeptByDraw Seen s r t
  kept_by_draw_through_view s t r g = record { can_next = g.can_next; is_finite = g.is_finite; answer = on_answer_seen s t r g.answer; may_give = g.may_give; may_fail = g.may_fail; lenders = g.lenders }

  lawful_view : ((s : S) (trace : List (Answered A E)) (t : S) → Run Seen.steps s trace t ↔ traces s trace t) → Lawful m → Lawful Seen
  lawful_view law l = record { kept_by_draw = λ s r t c step. kept_by_draw_through_view s t r (l.kept_by_draw (view s) r (view t) c step); bounded = λ s. l.bounded (view s); traced = law; hold = hold_seen view l.hold }

pub lawful_seen : {S P A E : Type 0} {m : Contract P A E} (view : S → P) → Lawful m → Lawful (seen_as view m)
lawful_seen {m = m} view l = lawful_view m view _ (λ _ _ _. ((λ h. h), (λ h. h))) l

pub lawful_parts : {S P A E : Type 0} {m : Contract P A E} {parts : S → P} → Inverse parts → Lawful m → Lawful (parts_as parts m)
lawful_parts {m = m} {parts = parts} inverse l = lawful_view m parts _ (traces_are_of_parts parts inverse.make inverse.made inverse.has m.steps m.traces l.traced) l

pub lawful_around : {S P A E : Type 0} {m : Contract P A E} {view : S → P} → Replaceable view → Lawful m → Lawful (around view m)
lawful_around {m = m} {view = view} other l = lawful_view m view _ (traces_are_around view other.put other.has m.steps m.traces l.traced) l

module _ {S A E : Type 0} {m : Contract S A E} where
  on_answer_after : (s t u : S) (r : Answered A E) → KeptByDraws m s t → OnAnswer m t r u → OnAnswer m s r u
  on_answer_after s t u (Ok (Some x)) p a = (p.may_give x a.0, (λ n b. let j = p.bound n b in let k = a.1 j.0 j.1 in (k.0, k.1, omega (arith, j.2, k.2))), (λ f. let j = p.remaining f in let k = a.2 j.0 in (k.0, omega (arith, j.1, k.1))))
  on_answer_after s t u (Ok None) p a = (no_more_transitive m s t u p.bound a.0, no_more_remains_transitive m s t u p.remaining a.1)
  on_answer_after s t u (Err e) p a = (p.may_fail e a.0, no_more_transitive m s t u p.bound a.1, (λ f. let j = p.remaining f in let k = a.2 j.0 in (k.0, omega (arith, j.1, k.1))))

  -- a draw keeps the contract also from where nothing more was to come before it
  pub kept_by_draw_from_before_draws : {s t u : S} {r : Answered A E} → KeptByDraws m s t → KeptByDraw m t r u → KeptByDraw m s r u
  kept_by_draw_from_before_draws {s} {t} {u} {r} p g = record {
    can_next = g.can_next;
    is_finite = λ e. g.is_finite (p.is_finite e);
    answer = on_answer_after s t u r p g.answer;
    may_give = λ x h. p.may_give x (g.may_give x h);
    may_fail = λ e h. p.may_fail e (g.may_fail e h);
    lenders = g.lenders ∙ p.lenders;
  }
