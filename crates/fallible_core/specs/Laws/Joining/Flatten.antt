-- The contract of `Flatten` is lawful where those of the outer source and of the inner iterators are.
use Rattle.std.specs.Prelude.{ℕ, ◌+◌, ◌*◌, ◌≤◌, ◌<◌, [], ◌∷◌, Option, Some, None, Ok, Err, IfSome}
use Rattle.std.proofs.Common.{refl, sym, arith, inl, inr}
use Rattle.std.proofs.Math.Nat.{mul-suc, mul-le-mul_left}
use Rattle.fallible_contract.specs.Traces.{Answered, item, failure, end}
use Rattle.fallible_contract.specs.Contract.{Contract, OnAnswer, KeptByDraw, KeptByDraws, Lawful}
use Rattle.fallible_contract.specs.Laws.Contract.{no_more_after, kept_by_draw_from_before_draws}
use Rattle.fallible_core.specs.Joining.Flatten.{flatten_contract, NumberInHand, SomeInner, EachInner, FlattenNumber}
use Rattle.fallible_core.specs.Laws.Hints.Joining.{flatten_hold}
use Rattle.fallible_core.specs.Laws.Joining.FlattenTraces.{Flattens, gives, fails, finishes, begins, outer_fails, outer_ends, done, flattens_of_flatten_trace, flatten_traced}

module _ {S X C B E : Type 0} (m : Contract S X E) (l : Lawful m) (into : X → C → Type 0) (inner : Contract C B E) (k : Lawful inner) where
  abbrev FlattenContract : Contract (S × Option C) B E
  FlattenContract = flatten_contract m into inner

  some_inner_before_draw : (P : C → Type 0) (s u : S) → ((x : X) → m.may_give u x → m.may_give s x) → SomeInner m into inner P u → SomeInner m into inner P s
  some_inner_before_draw P s u fewer p = record { argument = p.argument; iterator = p.iterator; given = fewer p.argument p.given; becomes = p.becomes; holds = p.holds }

  each_inner_after_draw : (P : C → Type 0) (s u : S) → ((x : X) → m.may_give u x → m.may_give s x) → EachInner m into inner P s → EachInner m into inner P u
  each_inner_after_draw P s u fewer p = record { at = λ x c given becomes. p.at x c (fewer x given) becomes }

  -- the number where there is one more answer of the current inner iterator
  flatten_number_after_draw_in_hand : (s : S) (c d : C) (n j : ℕ) (b : FlattenNumber m into inner s (Some c) n) → inner.bound d j → FlattenNumber m into inner s (Some d) (b.each * b.outer + j)
  flatten_number_after_draw_in_hand s c d n j b is = record { outer = b.outer; each = b.each; in_hand = j; outer_is = b.outer_is; each_is = b.each_is; in_hand_is = is; sum = omega arith }

  on_answer_in_hand : (s : S) (c d : C) (r : Answered B E) → OnAnswer inner c r d → OnAnswer FlattenContract (s, Some c) r (s, Some d)
  on_answer_in_hand s c d (Ok (Some y)) a = (inl a.0, (λ n b. let j = a.1 b.in_hand b.in_hand_is in (b.each * b.outer + j.0, flatten_number_after_draw_in_hand s c d n j.0 b j.1, omega (arith, j.2, b.sum))), (λ f. absurd f))
  on_answer_in_hand s c d (Ok None) a = ((λ n b. let j = a.0 b.in_hand b.in_hand_is in (b.each * b.outer + j.0, flatten_number_after_draw_in_hand s c d n j.0 b j.1, omega (arith, j.2, b.sum))), (λ f. absurd f))
  on_answer_in_hand s c d (Err e) a = (inr (inl a.0), (λ n b. let j = a.1 b.in_hand b.in_hand_is in (b.each * b.outer + j.0, flatten_number_after_draw_in_hand s c d n j.0 b j.1, omega (arith, j.2, b.sum))), (λ f. absurd f))

  kept_by_draw_in_hand : (s : S) (c d : C) (r : Answered B E) → FlattenContract.can_next (s, Some c) → inner.steps c r d → KeptByDraw FlattenContract (s, Some c) r (s, Some d)
  kept_by_draw_in_hand s c d r can step = let g = k.kept_by_draw c r d can.2 step in record {
    can_next = (can.0, can.1, g.can_next, can.3);
    is_finite = λ e. (e.0, g.is_finite e.1, e.2);
    answer = on_answer_in_hand s c d r g.answer;
    may_give = λ y h. elim h [ inl p ↦ inl (g.may_give y p) | inr p ↦ inr p ];
    may_fail = λ e h. elim h [ inl p ↦ inl p | inr p ↦ inr (elim p [ inl q ↦ inl (g.may_fail e q) | inr q ↦ inr q ]) ];
    lenders = refl;
  }

  -- an inner iterator that ended is dropped
  kept_by_draws_where_hand_dropped : (s : S) (c : C) → FlattenContract.can_next (s, Some c) → KeptByDraws FlattenContract (s, Some c) (s, None)
  kept_by_draws_where_hand_dropped s c can = record {
    can_next = (can.0, can.1, tt, can.3);
    is_finite = λ e. (e.0, tt, e.2);
    bound = λ n b. (b.each * b.outer, record { outer = b.outer; each = b.each; in_hand = 0; outer_is = b.outer_is; each_is = b.each_is; in_hand_is = refl; sum = omega arith }, omega (arith, b.sum));
    remaining = λ f. absurd f;
    may_give = λ y h. elim h [ inl p ↦ absurd p | inr p ↦ inr p ];
    may_fail = λ e h. elim h [ inl p ↦ inl p | inr p ↦ elim p [ inl q ↦ absurd q | inr q ↦ inr (inr q) ] ];
    lenders = refl;
  }

  product_and_rest_at_most_product : (b a j q : ℕ) → j < a → q ≤ b → b * j + q ≤ b * a
  product_and_rest_at_most_product b a j q lt le = let h : b * j + b ≤ b * a = rw (sym (mul-suc b j)) (mul-le-mul_left b lt) in omega (arith, h, le)

  -- an item became an inner iterator, which is in hand then
  pub kept_by_draws_where_inner_begins : (s u : S) (c : C) (x : X) → FlattenContract.can_next (s, None) → m.steps s (item x) u → into x c → KeptByDraws FlattenContract (s, None) (u, Some c)
  kept_by_draws_where_inner_begins s u c x can step becomes = let g = l.kept_by_draw s (item x) u can.0 step in record {
    can_next = (g.can_next, g.is_finite can.1, can.3.at x c g.answer.0 becomes, each_inner_after_draw inner.can_next s u g.may_give can.3);
    is_finite = λ e. (g.is_finite e.0, (let n = e.2.1.at x c g.answer.0 becomes in (k.bounded c).1 (n.0, n.1)), (e.2.0, each_inner_after_draw _ s u g.may_give e.2.1));
    bound = λ n b. let j = g.answer.1 b.outer b.outer_is in let q = b.each_is.at x c g.answer.0 becomes in (
      b.each * j.0 + q.0,
      record { outer = j.0; each = b.each; in_hand = q.0; outer_is = j.1; each_is = each_inner_after_draw _ s u g.may_give b.each_is; in_hand_is = q.1; sum = omega arith },
      (let le = product_and_rest_at_most_product b.each b.outer j.0 q.0 j.2 q.2 in omega (arith, le, b.sum)),
    );
    remaining = λ f. absurd f;
    may_give = λ y h. inr (elim h [ inl p ↦ record { argument = x; iterator = c; given = g.answer.0; becomes = becomes; holds = p } | inr p ↦ some_inner_before_draw _ s u g.may_give p ]);
    may_fail = λ e h. elim h [ inl p ↦ inl (g.may_fail e p) | inr p ↦ inr (inr (elim p [ inl q ↦ record { argument = x; iterator = c; given = g.answer.0; becomes = becomes; holds = q } | inr q ↦ some_inner_before_draw _ s u g.may_give q ])) ];
    lenders = g.lenders;
  }

  -- an answer of the outer source that is no item
  kept_by_draws_where_outer_draws : (s u : S) (r : Answered X E) → FlattenContract.can_next (s, None) → KeptByDraw m s r u → KeptByDraws FlattenContract (s, None) (u, None)
  kept_by_draws_where_outer_draws s u r can g = record {
    can_next = (g.can_next, g.is_finite can.1, tt, each_inner_after_draw inner.can_next s u g.may_give can.3);
    is_finite = λ e. (g.is_finite e.0, tt, (e.2.0, each_inner_after_draw _ s u g.may_give e.2.1));
    bound = λ n b. let j = no_more_after m s u r g.answer b.outer b.outer_is in (b.each * j.0, record { outer = j.0; each = b.each; in_hand = 0; outer_is = j.1; each_is = each_inner_after_draw _ s u g.may_give b.each_is; in_hand_is = refl; sum = omega arith }, (let le = mul-le-mul_left b.each j.2 in omega (arith, le, b.sum)));
    remaining = λ f. absurd f;
    may_give = λ y h. elim h [ inl p ↦ absurd p | inr p ↦ inr (some_inner_before_draw _ s u g.may_give p) ];
    may_fail = λ e h. elim h [ inl p ↦ inl (g.may_fail e p) | inr p ↦ elim p [ inl q ↦ absurd q | inr q ↦ inr (inr (some_inner_before_draw _ s u g.may_give q)) ] ];
    lenders = g.lenders;
  }

  kept_by_draw_end : (p q : S × Option C) → KeptByDraws FlattenContract p q → KeptByDraw FlattenContract p end q
  kept_by_draw_end p q h = record { can_next = h.can_next; is_finite = h.is_finite; answer = (h.bound, h.remaining); may_give = h.may_give; may_fail = h.may_fail; lenders = h.lenders }

  kept_by_draw_failure : (p q : S × Option C) (e : E) → FlattenContract.may_fail p e → KeptByDraws FlattenContract p q → KeptByDraw FlattenContract p (failure e) q
  kept_by_draw_failure p q e given h = record { can_next = h.can_next; is_finite = h.is_finite; answer = (given, h.bound, (λ f. absurd f)); may_give = h.may_give; may_fail = h.may_fail; lenders = h.lenders }

  kept_by_draw_flattens : (s t : S) (hand hand' : Option C) (r : Answered B E) → FlattenContract.can_next (s, hand) → Flattens m.steps into inner.steps s hand (r ∷ []) t hand' → KeptByDraw FlattenContract (s, hand) r (t, hand')
  kept_by_draw_flattens s _ _ _ _ can (gives {c = c} {d = d} y step done) = kept_by_draw_in_hand s c d (item y) can step
  kept_by_draw_flattens s _ _ _ _ can (fails {c = c} {d = d} e step done) = kept_by_draw_in_hand s c d (failure e) can step
  kept_by_draw_flattens s t _ hand' r can (finishes {c = c} {d = d} step rest) = let h = kept_by_draws_where_hand_dropped s c can in kept_by_draw_from_before_draws h (kept_by_draw_flattens s t None hand' r h.can_next rest)
  kept_by_draw_flattens s t _ hand' r can (begins {u = u} {c = c} x step becomes rest) = let h = kept_by_draws_where_inner_begins s u c x can step becomes in kept_by_draw_from_before_draws h (kept_by_draw_flattens u t (Some c) hand' r h.can_next rest)
  kept_by_draw_flattens s _ _ _ _ can (outer_fails {u = u} e step done) = let g = l.kept_by_draw s (failure e) u can.0 step in kept_by_draw_failure (s, None) (u, None) e (inl g.answer.0) (kept_by_draws_where_outer_draws s u (failure e) can g)
  kept_by_draw_flattens s _ _ _ _ can (outer_ends {u = u} step done) = kept_by_draw_end (s, None) (u, None) (kept_by_draws_where_outer_draws s u end can (l.kept_by_draw s end u can.0 step))

  number_in_hand_where_inner_is_finite : (hand : Option C) → IfSome hand inner.is_finite → (j : ℕ) × NumberInHand hand inner.bound j
  number_in_hand_where_inner_is_finite (Some c) e = (k.bounded c).0 e
  number_in_hand_where_inner_is_finite None e = (0, refl)

  inner_is_finite_of_number : (hand : Option C) (j : ℕ) → NumberInHand hand inner.bound j → IfSome hand inner.is_finite
  inner_is_finite_of_number (Some c) j is = (k.bounded c).1 (j, is)
  inner_is_finite_of_number None j is = tt

  pub lawful_flatten : Lawful FlattenContract
  lawful_flatten = record {
    kept_by_draw = λ p r q can step. kept_by_draw_flattens p.0 q.0 p.1 q.1 r can (flattens_of_flatten_trace m.steps into inner.steps p.0 q.0 p.1 q.1 (r ∷ []) step);
    traced = flatten_traced into l.traced k.traced;
    hold = flatten_hold FlattenContract.steps;
    bounded = λ p. (
      (λ e. let a = (l.bounded p.0).0 e.0 in let j = number_in_hand_where_inner_is_finite p.1 e.1 in (e.2.0 * a.0 + j.0, record { outer = a.0; each = e.2.0; in_hand = j.0; outer_is = a.1; each_is = e.2.1; in_hand_is = j.1; sum = omega arith })),
      (λ n. let b = n.1 in ((l.bounded p.0).1 (b.outer, b.outer_is), inner_is_finite_of_number p.1 b.in_hand b.in_hand_is, (b.each, b.each_is))),
    );
  }
