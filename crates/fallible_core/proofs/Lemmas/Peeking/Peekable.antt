-- `Peekable`: what is left after a look ahead, and what it lists.
use Rattle.std.specs.Prelude.{◌≡◌, List, [], ◌∷◌, Option, Result, MatchResult, option_copied, Some, None, Ok, Err, Bool, true, false}
use Rattle.std.specs.Option.{option_copied_mut}
use Rattle.std.specs.Borrow.{Bor, MutBor}
use Rattle.std.specs.Fn.{Shared, FnReturnsAt}
use Rattle.std.proofs.Common.{refl, sym, ap, subst, arith, inl, inr}
use Rattle.fallible_contract.specs.Traces.{Answered, item, end}
use Rattle.fallible_contract.specs.Contract.{Contract, KeptByDraw, NeverFails, Stays, Lawful, parts_as}
use Rattle.fallible_contract.specs.Lists.{AlwaysGives, Lists}
use Rattle.fallible_contract.proofs.Lemmas.Lists.Passing.{lists_seen}
use Rattle.fallible_contract.specs.Laws.Contract.{stays_by_draw_first, stays_reflexive}
use Rattle.fallible_core.specs.Peeking.Peekable.{peekable_parts, held_then, peekable_step, peekable_contract, seen, seen_mut, failure_told, held_of, held_item, Fills, Peeks, Looks, TakenIf, NextIf}
use Rattle.fallible_core.specs.Laws.Peeking.Peekable.{kept_by_draw_drawn}
use Rattle.fallible_core.specs.declared.peeking.peekable.Peekable.{Peekable}

-- ---- looking ahead

module _ {S A E : Type 0} {m : Contract S A E} (l : Lawful m) where
  abbrev PeekableContract : Contract (S × Option (Option A)) A E
  PeekableContract = peekable_contract m

  -- an item or an end that was drawn and is held comes next, as it came
  never_fails_held : (s t : S) (o : Option A) → m.steps s (Ok o) t → NeverFails PeekableContract (s, None) → NeverFails PeekableContract (t, Some o)
  never_fails_held s t o step never [] u v e ran fails = let d : Err e ≡ Ok o = (subst (λ (p : S × Option (Option A)). PeekableContract.steps p (Err e) v) (sym ran) fails).0 in absurd cc
  never_fails_held s t o step never (r ∷ trace) u v e ((t', held'), held, ran) fails = never (r ∷ trace) u v e ((t', held'), (rw (held.0, held.1) step, held.2), ran) fails

  -- an item that was drawn is held
  stays_where_item_drawn_is_held : (s t : S) (x : A) → m.steps s (item x) t → KeptByDraw m s (item x) t → Stays PeekableContract (s, None) (t, Some (Some x))
  stays_where_item_drawn_is_held s t x step a = record {
    can_next = a.can_next;
    is_finite = a.is_finite;
    bound = λ n b. let k = a.answer.1 b.0 b.1 in (n, (k.0, k.1, omega (arith, k.2, b.2)), omega arith);
    remaining = λ f. let j = a.answer.2 f in (j.0, omega (arith, j.1));
    may_give = λ y h. elim h [ inl e ↦ (let same : x ≡ y = cc in inr (subst (λ (z : A). m.may_give s z) same a.answer.0)) | inr g ↦ inr (a.may_give y g) ];
    may_fail = a.may_fail;
    lenders = a.lenders;
    sure = never_fails_held s t (Some x) step;
  }

  -- an end that was drawn is held
  stays_where_end_drawn_is_held : (s t : S) → m.steps s end t → KeptByDraw m s end t → Stays PeekableContract (s, None) (t, Some None)
  stays_where_end_drawn_is_held s t step a = record {
    can_next = a.can_next;
    is_finite = a.is_finite;
    bound = λ n b. let k = a.answer.0 b.0 b.1 in (n, (k.0, k.1, omega (arith, k.2, b.2)), omega arith);
    remaining = λ f. let j = a.answer.1 f in (j.0, omega (arith, j.1));
    may_give = λ y h. elim h [ inl e ↦ absurd cc | inr g ↦ inr (a.may_give y g) ];
    may_fail = a.may_fail;
    lenders = a.lenders;
    sure = never_fails_held s t None step;
  }

  stays_after_peek_where_none_held : (s t : S) (r : Answered A E) (held : Option (Option A)) → m.can_next s → Peeks m.steps (s, None) r (t, held) → Stays PeekableContract (s, None) (t, held)
  stays_after_peek_where_none_held s t (Ok (Some x)) held c peeks = rw peeks.1 (stays_where_item_drawn_is_held s t x peeks.0 (l.kept_by_draw s (item x) t c peeks.0))
  stays_after_peek_where_none_held s t (Ok None) held c peeks = rw peeks.1 (stays_where_end_drawn_is_held s t peeks.0 (l.kept_by_draw s end t c peeks.0))
  stays_after_peek_where_none_held s t (Err e) held c peeks = let a = l.kept_by_draw s (Err e) t c peeks.0 in rw peeks.1 (stays_by_draw_first (peeks.0, refl) (kept_by_draw_drawn m s t (Err e) a) (stays_reflexive a.can_next))

  pub stays_after_peek : (p : S × Option (Option A)) (r : Answered A E) (q : S × Option (Option A)) → m.can_next p.0 → Peeks m.steps p r q → Stays PeekableContract p q
  stays_after_peek (s, Some o) r (t, held) c peeks = rw (peeks.1, peeks.2) (stays_reflexive c)
  stays_after_peek (s, None) r (t, held) c peeks = stays_after_peek_where_none_held s t r held c peeks

  pub stays_after_fill : (p : S × Option (Option A)) (r : Result (Unit {0}) E) (q : S × Option (Option A)) → m.can_next p.0 → Fills m.steps p r q → Stays PeekableContract p q
  stays_after_fill p r q c fills = stays_after_peek p fills.0 q c fills.1

module _ {S A E : Type 0} (steps : S → Answered A E → S → Type 0) where
  -- the item or the end that a draw yielded, put back
  pub peeks_what_step_answers : (p q : S × Option (Option A)) (o : Option A) → peekable_step steps p (Ok o) q → Peeks steps p (Ok o) (q.0, Some o)
  peeks_what_step_answers (s, Some y) (t, held) o step = let same : o ≡ y = cc in (step.0, step.1, ap (λ z. Some z) same)
  peeks_what_step_answers (s, None) (t, held) o step = (step.0, refl)

  none_held_after_draw : (p q : S × Option (Option A)) (o : Option A) → peekable_step steps p (Ok o) q → q.1 ≡ None
  none_held_after_draw (s, Some y) (t, held) o step = step.2
  none_held_after_draw (s, None) (t, held) o step = step.1

  module _ (test : A → Bool → Type 0) where
    pub next_if_takes_item : (p q : S × Option (Option A)) (x : A) → peekable_step steps p (item x) q → test x true → NextIf steps test p (item x) q
    next_if_takes_item p q x step true_of = record { peeked = item x; after = (q.0, Some (Some x)); peeks = peeks_what_step_answers p q (Some x) step; taken = inl (true_of, refl, (refl, refl, none_held_after_draw p q (Some x) step)) }

    pub next_if_keeps_item : (p q : S × Option (Option A)) (x : A) → peekable_step steps p (item x) q → test x false → NextIf steps test p end (q.0, Some (Some x))
    next_if_keeps_item p q x step false_of = record { peeked = item x; after = (q.0, Some (Some x)); peeks = peeks_what_step_answers p q (Some x) step; taken = inr (false_of, refl, refl) }

    pub next_if_keeps_end : (p q : S × Option (Option A)) → peekable_step steps p end q → NextIf steps test p end (q.0, Some None)
    next_if_keeps_end p q step = record { peeked = end; after = (q.0, Some None); peeks = peeks_what_step_answers p q None step; taken = (refl, refl) }

    pub next_if_takes_failure : (p q : S × Option (Option A)) (e : E) → peekable_step steps p (Err e) q → NextIf steps test p (Err e) q
    next_if_takes_failure (s, Some o) q e step = absurd (let d = step.0 in cc)
    next_if_takes_failure (s, None) (t, held) e step = record { peeked = Err e; after = (t, held); peeks = step; taken = (refl, refl) }

pub stays_where_draw_is_held : {S A E : Type 0} {m : Contract S A E} → Lawful m → (p q : S × Option (Option A)) (o : Option A) → m.can_next p.0 → peekable_step m.steps p (Ok o) q → Stays (peekable_contract m) p (q.0, Some o)
stays_where_draw_is_held {m = m} l p q o c step = stays_after_peek l p (Ok o) (q.0, Some o) c (peeks_what_step_answers m.steps p q o step)

-- ---- `peek`

module _ {S A E : Type 0} (steps : S → Answered A E → S → Type 0) where
  pub held_after_peek_is_held_of_answer : (p q : S × Option (Option A)) (a : Answered A E) → Peeks steps p a q → q.1 ≡ held_of a
  held_after_peek_is_held_of_answer (s, Some o) (t, held) a peeks = rw (peeks.0, peeks.2) refl
  held_after_peek_is_held_of_answer (s, None) (t, held) a peeks = peeks.1

  -- what is returned, where a failure was told and otherwise the held item is borrowed
  seen_is_answer : (a : Answered A E) (held : Option (Option A)) (shown : Option (Bor A)) (x : Result (Option (Bor A)) E) → held ≡ held_of a → option_copied shown ≡ held_item held → MatchResult (failure_told a) (λ _. x ≡ Ok shown) (λ e. x ≡ Err e) → seen x ≡ a
  seen_is_answer (Ok (Some y)) held (Some z) x is copied joined = let same : Some z.now ≡ Some y = rw is at copied in let at : z.now ≡ y = cc in rw joined (ap (λ w. item w) at)
  seen_is_answer (Ok (Some y)) held None x is copied joined = let none : None ≡ Some y = rw is at copied in absurd cc
  seen_is_answer (Ok None) held (Some z) x is copied joined = let some : Some z.now ≡ None = rw is at copied in absurd cc
  seen_is_answer (Ok None) held None x is copied joined = rw joined refl
  seen_is_answer (Err e) held shown x is copied joined = rw joined refl

  -- the same of a mutable reference to the held item
  seen_mut_is_answer : (a : Answered A E) (held : Option (Option A)) (shown : Option (MutBor A)) → Ok tt ≡ failure_told a → held ≡ held_of a → option_copied_mut shown ≡ held_item held → seen_mut (Ok shown) ≡ a
  seen_mut_is_answer (Ok (Some y)) held (Some z) told is copied = let same : Some z.now ≡ Some y = rw is at copied in let at : z.now ≡ y = cc in ap (λ w. item w) at
  seen_mut_is_answer (Ok (Some y)) held None told is copied = let none : None ≡ Some y = rw is at copied in absurd cc
  seen_mut_is_answer (Ok None) held (Some z) told is copied = let some : Some z.now ≡ None = rw is at copied in absurd cc
  seen_mut_is_answer (Ok None) held None told is copied = refl
  seen_mut_is_answer (Err e) held shown told is copied = absurd cc

  pub peeks_seen_mut_after_fill : (p q : S × Option (Option A)) (shown : Option (MutBor A)) → Fills steps p (Ok tt) q → option_copied_mut shown ≡ held_item q.1 → Peeks steps p (seen_mut (Ok shown)) q
  peeks_seen_mut_after_fill p q shown fills copied = subst (λ (r : Answered A E). Peeks steps p r q) (sym (seen_mut_is_answer fills.0 q.1 shown fills.2 (held_after_peek_is_held_of_answer p q fills.0 fills.1) copied)) fills.1

  pub peeks_seen_after_fill : (p q : S × Option (Option A)) (filled : Result (Unit {0}) E) (shown : Option (Bor A)) (x : Result (Option (Bor A)) E) → Fills steps p filled q → option_copied shown ≡ held_item q.1 → MatchResult filled (λ _. x ≡ Ok shown) (λ e. x ≡ Err e) → Peeks steps p (seen x) q
  peeks_seen_after_fill p q filled shown x fills copied joined =
      let a = fills.0 in
      let is = seen_is_answer a q.1 shown x (held_after_peek_is_held_of_answer p q a fills.1) copied (subst (λ (r : Result (Unit {0}) E). MatchResult r (λ _. x ≡ Ok shown) (λ e. x ≡ Err e)) fills.2 joined) in
      subst (λ (r : Answered A E). Peeks steps p r q) (sym is) fills.1

  pub fills_without_change_where_held : (p : S × Option (Option A)) (o : Option A) → p.1 ≡ Some o → Fills steps p (Ok tt) p
  fills_without_change_where_held (s, held) o e = rw e (Ok o, (refl, refl, refl), refl)

-- ---- one test for another

module _ {S A E : Type 0} (steps : S → Answered A E → S → Type 0) (test test' : A → Bool → Type 0) (same : (x : A) (b : Bool) → test x b → test' x b) where
  taken_if_by_weaker_test : (p : S × Option (Option A)) (peeked r : Answered A E) (q : S × Option (Option A)) → TakenIf steps test p peeked r q → TakenIf steps test' p peeked r q
  taken_if_by_weaker_test p (Ok (Some x)) r q h = elim h [ inl t ↦ inl (same x true t.0, t.1, t.2) | inr t ↦ inr (same x false t.0, t.1, t.2) ]
  taken_if_by_weaker_test p (Ok None) r q h = h
  taken_if_by_weaker_test p (Err e) r q h = h

  pub next_if_by_weaker_test : (p : S × Option (Option A)) (r : Answered A E) (q : S × Option (Option A)) → NextIf steps test p r q → NextIf steps test' p r q
  next_if_by_weaker_test p r q n = record { peeked = n.peeked; after = n.after; peeks = n.peeks; taken = taken_if_by_weaker_test n.after n.peeked r q n.taken }

-- ---- looking

answer_is_item_held_after_fill : {S A E : Type 0} (steps : S → Answered A E → S → Type 0) (p q : S × Option (Option A)) (a : Answered A E) (x : A) → Peeks steps p a q → Ok tt ≡ failure_told a → held_item q.1 ≡ Some x → a ≡ Ok (Some x)
answer_is_item_held_after_fill steps (s, Some o) q a x w t h = cc
answer_is_item_held_after_fill steps (s, None) q (Ok o) x w t h = cc
answer_is_item_held_after_fill steps (s, None) q (Err e) x w t h = absurd cc

-- what a closure returns for the item that is held is what it returns for the one that was looked at
pub looks_at_held : {S F A R E : Type 0} (steps : S → Answered A E → S → Type 0) {g : Shared F (Bor A × Unit {0}) R} {f : F} (p q : S × Option (Option A)) (x : A) {v : R} → Fills steps p (Ok tt) q → held_item q.1 ≡ Some x → FnReturnsAt g f x v → Looks steps g f p (Ok (Some v)) q
looks_at_held {A = A} {E = E} steps p q x {v = v} w h called = (Ok (Some x), subst (λ (a : Answered A E). Peeks steps p a q) (answer_is_item_held_after_fill steps p q w.0 x w.1 w.2 h) w.1, (v, called, refl))

-- ---- what it lists

always_gives_peekable : {S A E : Type 0} (steps : S → Answered A E → S → Type 0) (l : List (Result A E)) (s : S) → AlwaysGives steps s l → AlwaysGives (peekable_step steps) (s, None) l
always_gives_peekable steps [] s g = λ r q w. g r q.0 w.0
always_gives_peekable {A = A} steps (y ∷ l) s g = λ r q w. let d = g r q.0 w.0 in (d.0, subst (λ (held : Option (Option A)). AlwaysGives (peekable_step steps) (q.0, held) l) (sym w.1) (always_gives_peekable steps l q.0 d.1))

pub lists_peekable : {S A E : Type 0} (m : Contract S A E) (s : Peekable S A E) (l : List (Result A E)) → peekable_parts s ≡ (s.it, None) → Lists m.steps s.it l → Lists (parts_as peekable_parts (peekable_contract m)).steps s l
lists_peekable m s l parts i = lists_seen peekable_parts (peekable_step m.steps) s parts refl (always_gives_peekable m.steps l s.it i.runs)

always_gives_held : {S A E : Type 0} (steps : S → Answered A E → S → Type 0) (held : Option (Option A)) (l : List (Result A E)) (s : S) → AlwaysGives steps s l → AlwaysGives (peekable_step steps) (s, held) (held_then held l)
always_gives_held {S} {A} {E} steps (Some (Some x)) l s g = λ r q w. (w.0, subst (λ (t : S). AlwaysGives (peekable_step steps) (t, q.1) l) (sym w.1) (subst (λ (k : Option (Option A)). AlwaysGives (peekable_step steps) (s, k) l) (sym w.2) (always_gives_peekable steps l s g)))
always_gives_held steps (Some None) l s g = λ r q w. w.0
always_gives_held steps None l s g = always_gives_peekable steps l s g

pub lists_held : {S A E : Type 0} (m : Contract S A E) (s : Peekable S A E) (l : List (Result A E)) → Lists m.steps s.it l → Lists (parts_as peekable_parts (peekable_contract m)).steps s (held_then s.held l)
lists_held m s l i = lists_seen peekable_parts (peekable_step m.steps) s refl refl (always_gives_held m.steps s.held l s.it i.runs)
