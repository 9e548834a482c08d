-- The contract of `Chain` is lawful where those of both sides are.
use Rattle.std.specs.Prelude.{◌≡◌, ℕ, ◌+◌, List, cond, T, Bool, true, false, Some, None, Ok, Err, ◌↔◌}
use Rattle.std.specs.Iterator.{IsFinite, size}
use Rattle.std.proofs.Common.{arith, inl, inr, refl, ap₂}
use Rattle.fallible_contract.specs.Traces.{Answered, end, is_end}
use Rattle.fallible_contract.specs.Sound.{SoundWhere}
use Rattle.fallible_core.specs.Laws.Hints.Joining.{chain_hold, chain_back_hold}
use Rattle.fallible_contract.specs.Contract.{Contract, OnAnswer, KeptByDraw, Lawful, lenders_of_both}
use Rattle.fallible_contract.specs.Ends.{Ends, from_back, LawfulEnds}
use Rattle.fallible_contract.specs.Laws.LawForm.{traces_are_of_parts}
use Rattle.fallible_core.specs.Laws.Joining.ChainTraces.{chain_traced, chain_back_twice}
use Rattle.fallible_core.specs.Joining.Chain.{chains_all, chain_step, chain_may_come, chain_contract, chain_back, chain_ends}
use Rattle.fallible_core.specs.declared.joining.chain.StillDrawn.{StillDrawn}
use Rattle.fallible_core.specs.declared.joining.chain.StillDrawn.TheVariants.{Both, FirstAlone, SecondAlone}

-- a sum of counts is finite where both are
pub both_true_where_cond_true : (a b : Bool) → T (cond a b false) → T a × T b
both_true_where_cond_true true b h = (tt, h)
both_true_where_cond_true false b h = absurd h

pub cond_true_where_both_true : (a b : Bool) → T a → T b → T (cond a b false)
cond_true_where_both_true true b h k = k
cond_true_where_both_true false b h k = absurd h

module _ {S U A E : Type 0} (first : Contract S A E) (second : Contract U A E) where
  abbrev ChainContract : Contract (S × U × StillDrawn) A E
  ChainContract = chain_contract first second

  on_answer_first : (s t : S) (u : U) (r : Answered A E) → OnAnswer first s r t → OnAnswer ChainContract (s, u, FirstAlone) r (t, u, FirstAlone)
  on_answer_first s t u (Ok (Some x)) a = a
  on_answer_first s t u (Ok None) a = a
  on_answer_first s t u (Err e) a = a

  on_answer_second : (s : S) (u v : U) (r : Answered A E) → OnAnswer second u r v → OnAnswer ChainContract (s, u, SecondAlone) r (s, v, SecondAlone)
  on_answer_second s u v (Ok (Some x)) a = a
  on_answer_second s u v (Ok None) a = a
  on_answer_second s u v (Err e) a = a

  -- an answer of the first, which isn't its end
  on_answer_before_end : (s t : S) (u : U) (r : Answered A E) → is_end r ≡ false → OnAnswer first s r t → OnAnswer ChainContract (s, u, Both) r (t, u, Both)
  on_answer_before_end s t u (Ok (Some x)) e a = (
    inl a.0,
    (λ n h. let k = a.1 h.0 h.2 in (k.0 + h.1, (k.0, h.1, k.1, h.3, omega arith), omega (arith, k.2, h.4))),
    (λ f. let b = both_true_where_cond_true (first.remaining s).bounded (second.remaining u).bounded f in let k = a.2 b.0 in (cond_true_where_both_true (first.remaining t).bounded (second.remaining u).bounded k.0 b.1, omega (arith, k.1))),
  )
  on_answer_before_end s t u (Ok None) e a = absurd cc
  on_answer_before_end s t u (Err d) e a = (
    inl a.0,
    (λ n h. let k = a.1 h.0 h.2 in (k.0 + h.1, (k.0, h.1, k.1, h.3, omega arith), omega (arith, k.2, h.4))),
    (λ f. let b = both_true_where_cond_true (first.remaining s).bounded (second.remaining u).bounded f in let k = a.2 b.0 in (cond_true_where_both_true (first.remaining t).bounded (second.remaining u).bounded k.0 b.1, omega (arith, k.1))),
  )

  -- an answer of the second, in the draw that met the first's end
  on_answer_at_end : (s t : S) (u v : U) (r : Answered A E) → OnAnswer second u r v → OnAnswer ChainContract (s, u, Both) r (t, v, SecondAlone)
  on_answer_at_end s t u v (Ok (Some x)) a = (
    inr a.0,
    (λ n h. let k = a.1 h.1 h.3 in (k.0, k.1, omega (arith, k.2, h.4))),
    (λ f. let b = both_true_where_cond_true (first.remaining s).bounded (second.remaining u).bounded f in let k = a.2 b.1 in (k.0, omega (arith, k.1))),
  )
  on_answer_at_end s t u v (Ok None) a = (
    (λ n h. let k = a.0 h.1 h.3 in (k.0, k.1, omega (arith, k.2, h.4))),
    (λ f. let b = both_true_where_cond_true (first.remaining s).bounded (second.remaining u).bounded f in let k = a.1 b.1 in (k.0, omega (arith, k.1))),
  )
  on_answer_at_end s t u v (Err e) a = (
    inr a.0,
    (λ n h. let k = a.1 h.1 h.3 in (k.0, k.1, omega (arith, k.2, h.4))),
    (λ f. let b = both_true_where_cond_true (first.remaining s).bounded (second.remaining u).bounded f in let k = a.2 b.1 in (k.0, omega (arith, k.1))),
  )

  module _ (l : Lawful first) (k : Lawful second) where
    kept_by_draw_first : (s t : S) (u : U) (r : Answered A E) → ChainContract.can_next (s, u, FirstAlone) → first.steps s r t → KeptByDraw ChainContract (s, u, FirstAlone) r (t, u, FirstAlone)
    kept_by_draw_first s t u r c step = let a = l.kept_by_draw s r t c.0 step in record { can_next = (a.can_next, c.1); is_finite = a.is_finite; answer = on_answer_first s t u r a.answer; may_give = a.may_give; may_fail = a.may_fail; lenders = ap₂ lenders_of_both a.lenders refl }

    kept_by_draw_second : (s : S) (u v : U) (r : Answered A E) → ChainContract.can_next (s, u, SecondAlone) → second.steps u r v → KeptByDraw ChainContract (s, u, SecondAlone) r (s, v, SecondAlone)
    kept_by_draw_second s u v r c step = let b = k.kept_by_draw u r v c.1 step in record { can_next = (c.0, b.can_next); is_finite = b.is_finite; answer = on_answer_second s u v r b.answer; may_give = b.may_give; may_fail = b.may_fail; lenders = ap₂ lenders_of_both refl b.lenders }

    kept_by_draw_before_end : (s t : S) (u : U) (r : Answered A E) → ChainContract.can_next (s, u, Both) → first.steps s r t → is_end r ≡ false → KeptByDraw ChainContract (s, u, Both) r (t, u, Both)
    kept_by_draw_before_end s t u r c step e = let a = l.kept_by_draw s r t c.0 step in record {
      can_next = (a.can_next, c.1);
      is_finite = λ h. (a.is_finite h.0, h.1);
      answer = on_answer_before_end s t u r e a.answer;
      may_give = λ x h. elim h [ inl h ↦ inl (a.may_give x h) | inr h ↦ inr h ];
      may_fail = λ d h. elim h [ inl h ↦ inl (a.may_fail d h) | inr h ↦ inr h ];
      lenders = ap₂ lenders_of_both a.lenders refl;
    }

    kept_by_draw_at_end : (s t : S) (u v : U) (r : Answered A E) → ChainContract.can_next (s, u, Both) → first.steps s end t → second.steps u r v → KeptByDraw ChainContract (s, u, Both) r (t, v, SecondAlone)
    kept_by_draw_at_end s t u v r c met step = let a = l.kept_by_draw s end t c.0 met in let b = k.kept_by_draw u r v c.1 step in record {
      can_next = (a.can_next, b.can_next);
      is_finite = λ h. b.is_finite h.1;
      answer = on_answer_at_end s t u v r b.answer;
      may_give = λ x h. inr (b.may_give x h);
      may_fail = λ d h. inr (b.may_fail d h);
      lenders = ap₂ lenders_of_both a.lenders b.lenders;
    }

    kept_by_draw_chain : (p : S × U × StillDrawn) (r : Answered A E) (q : S × U × StillDrawn) → ChainContract.can_next p → ChainContract.steps p r q → KeptByDraw ChainContract p r q
    kept_by_draw_chain (s, u, Both) r (t, v, after) c (inl step) = rw (step.2, step.3) (kept_by_draw_before_end s t u r c step.0 step.1)
    kept_by_draw_chain (s, u, Both) r (t, v, after) c (inr step) = rw step.2 (kept_by_draw_at_end s t u v r c step.0 step.1)
    kept_by_draw_chain (s, u, FirstAlone) r (t, v, after) c step = rw (step.1, step.2) (kept_by_draw_first s t u r c step.0)
    kept_by_draw_chain (s, u, SecondAlone) r (t, v, after) c step = rw (step.1, step.2) (kept_by_draw_second s u v r c step.0)

    is_finite_iff_bound_chain : (p : S × U × StillDrawn) → ChainContract.is_finite p ↔ ((n : ℕ) × ChainContract.bound p n)
    is_finite_iff_bound_chain (s, u, Both) = (
      (λ e. let a = (l.bounded s).0 e.0 in let b = (k.bounded u).0 e.1 in (a.0 + b.0, (a.0, b.0, a.1, b.1, omega arith))),
      (λ h. ((l.bounded s).1 (h.1.0, h.1.2), (k.bounded u).1 (h.1.1, h.1.3))),
    )
    is_finite_iff_bound_chain (s, u, FirstAlone) = l.bounded s
    is_finite_iff_bound_chain (s, u, SecondAlone) = k.bounded u

pub lawful_chain : {S U A E : Type 0} {first : Contract S A E} {second : Contract U A E} → Lawful first → Lawful second → Lawful (chain_contract first second)
lawful_chain {first = first} {second = second} l k = record { kept_by_draw = kept_by_draw_chain first second l k; bounded = is_finite_iff_bound_chain first second l k; traced = chain_traced l.traced k.traced; hold = chain_hold first second l.hold k.hold }

-- ---- the second end

-- what may come from the sides may come from more of them
chain_may_come_by_each_part : {S U X : Type 0} {P P' : S → X → Type 0} {Q Q' : U → X → Type 0} → ((s : S) (x : X) → P s x → P' s x) → ((u : U) (x : X) → Q u x → Q' u x) → (p : S × U × StillDrawn) (x : X) → chain_may_come P Q p x → chain_may_come P' Q' p x
chain_may_come_by_each_part f g (s, u, Both) x h = elim h [ inl a ↦ inl (f s x a) | inr b ↦ inr (g u x b) ]
chain_may_come_by_each_part f g (s, u, FirstAlone) x h = f s x h
chain_may_come_by_each_part f g (s, u, SecondAlone) x h = g u x h

-- what may come from the sides swapped is what may come from the sides
chain_may_come_iff_chain_back : {S U X : Type 0} (P : S → X → Type 0) (Q : U → X → Type 0) (p : S × U × StillDrawn) (x : X) → chain_may_come P Q p x ↔ chain_may_come Q P (chain_back p) x
chain_may_come_iff_chain_back P Q (s, u, Both) x = ((λ h. elim h [ inl a ↦ inr a | inr b ↦ inl b ]), (λ h. elim h [ inl b ↦ inr b | inr a ↦ inl a ]))
chain_may_come_iff_chain_back P Q (s, u, FirstAlone) x = ((λ h. h), (λ h. h))
chain_may_come_iff_chain_back P Q (s, u, SecondAlone) x = ((λ h. h), (λ h. h))

module _ {S U A E : Type 0} (first : Contract S A E) (second : Contract U A E) where
  -- What else is said of the sides is said of them swapped.
  bound_iff_bound_of_chain_back : (p : S × U × StillDrawn) (n : ℕ) → (ChainContract first second).bound p n ↔ (ChainContract second first).bound (chain_back p) n
  bound_iff_bound_of_chain_back (s, u, Both) n = ((λ h. (h.1, h.0, h.3, h.2, omega (arith, h.4))), (λ h. (h.1, h.0, h.3, h.2, omega (arith, h.4))))
  bound_iff_bound_of_chain_back (s, u, FirstAlone) n = ((λ h. h), (λ h. h))
  bound_iff_bound_of_chain_back (s, u, SecondAlone) n = ((λ h. h), (λ h. h))

  is_finite_iff_chain_back_is_finite : (p : S × U × StillDrawn) → (ChainContract first second).is_finite p ↔ (ChainContract second first).is_finite (chain_back p)
  is_finite_iff_chain_back_is_finite (s, u, Both) = ((λ h. (h.1, h.0)), (λ h. (h.1, h.0)))
  is_finite_iff_chain_back_is_finite (s, u, FirstAlone) = ((λ h. h), (λ h. h))
  is_finite_iff_chain_back_is_finite (s, u, SecondAlone) = ((λ h. h), (λ h. h))

  remaining_is_finite_iff_of_chain_back : (p : S × U × StillDrawn) → IsFinite ((ChainContract first second).remaining p) ↔ IsFinite ((ChainContract second first).remaining (chain_back p))
  remaining_is_finite_iff_of_chain_back (s, u, Both) = (
    (λ h. let b = both_true_where_cond_true (first.remaining s).bounded (second.remaining u).bounded h in cond_true_where_both_true (second.remaining u).bounded (first.remaining s).bounded b.1 b.0),
    (λ h. let b = both_true_where_cond_true (second.remaining u).bounded (first.remaining s).bounded h in cond_true_where_both_true (first.remaining s).bounded (second.remaining u).bounded b.1 b.0),
  )
  remaining_is_finite_iff_of_chain_back (s, u, FirstAlone) = ((λ h. h), (λ h. h))
  remaining_is_finite_iff_of_chain_back (s, u, SecondAlone) = ((λ h. h), (λ h. h))

  size_of_remaining_is_size_of_chain_back : (p : S × U × StillDrawn) → size ((ChainContract first second).remaining p) ≡ size ((ChainContract second first).remaining (chain_back p))
  size_of_remaining_is_size_of_chain_back (s, u, Both) = omega arith
  size_of_remaining_is_size_of_chain_back (s, u, FirstAlone) = refl
  size_of_remaining_is_size_of_chain_back (s, u, SecondAlone) = refl

  on_answer_back : (p : S × U × StillDrawn) (r : Answered A E) (q : S × U × StillDrawn) → OnAnswer (ChainContract second first) (chain_back p) r (chain_back q) → OnAnswer (ChainContract first second) p r q
  on_answer_back p (Ok (Some x)) q a = (
    (chain_may_come_iff_chain_back first.may_give second.may_give p x).1 a.0,
    (λ n h. let k = a.1 n ((bound_iff_bound_of_chain_back p n).0 h) in (k.0, (bound_iff_bound_of_chain_back q k.0).1 k.1, k.2)),
    (λ f. let k = a.2 ((remaining_is_finite_iff_of_chain_back p).0 f) in ((remaining_is_finite_iff_of_chain_back q).1 k.0, omega (arith, k.1, size_of_remaining_is_size_of_chain_back p, size_of_remaining_is_size_of_chain_back q))),
  )
  on_answer_back p (Ok None) q a = (
    (λ n h. let k = a.0 n ((bound_iff_bound_of_chain_back p n).0 h) in (k.0, (bound_iff_bound_of_chain_back q k.0).1 k.1, k.2)),
    (λ f. let k = a.1 ((remaining_is_finite_iff_of_chain_back p).0 f) in ((remaining_is_finite_iff_of_chain_back q).1 k.0, omega (arith, k.1, size_of_remaining_is_size_of_chain_back p, size_of_remaining_is_size_of_chain_back q))),
  )
  on_answer_back p (Err e) q a = (
    (chain_may_come_iff_chain_back first.may_fail second.may_fail p e).1 a.0,
    (λ n h. let k = a.1 n ((bound_iff_bound_of_chain_back p n).0 h) in (k.0, (bound_iff_bound_of_chain_back q k.0).1 k.1, k.2)),
    (λ f. let k = a.2 ((remaining_is_finite_iff_of_chain_back p).0 f) in ((remaining_is_finite_iff_of_chain_back q).1 k.0, omega (arith, k.1, size_of_remaining_is_size_of_chain_back p, size_of_remaining_is_size_of_chain_back q))),
  )

  -- A draw that goes, seen from the back, goes, whatever the steps are.
  kept_by_draw_back : (steps : S × U × StillDrawn → Answered A E → S × U × StillDrawn → Type 0) (traces : S × U × StillDrawn → List (Answered A E) → S × U × StillDrawn → Type 0) (sound : SoundWhere (S × U × StillDrawn)) (p : S × U × StillDrawn) (r : Answered A E) (q : S × U × StillDrawn) → KeptByDraw (ChainContract second first) (chain_back p) r (chain_back q) → KeptByDraw (record (ChainContract first second) { steps = steps; traces = traces; sound = sound }) p r q
  kept_by_draw_back steps traces sound p r q g = record {
    can_next = (g.can_next.1, g.can_next.0);
    is_finite = λ h. (is_finite_iff_chain_back_is_finite q).1 (g.is_finite ((is_finite_iff_chain_back_is_finite p).0 h));
    answer = on_answer_back p r q g.answer;
    may_give = λ x h. (chain_may_come_iff_chain_back first.may_give second.may_give p x).1 (g.may_give x ((chain_may_come_iff_chain_back first.may_give second.may_give q x).0 h));
    may_fail = λ e h. (chain_may_come_iff_chain_back first.may_fail second.may_fail p e).1 (g.may_fail e ((chain_may_come_iff_chain_back first.may_fail second.may_fail q e).0 h));
    lenders = let e = g.lenders in ap₂ lenders_of_both (cc) (cc);
  }

-- A chain from the back is the chain of both backs in the other order, and turned twice it is itself.
pub lawful_ends_chain : {S U A E : Type 0} {first : Contract S A E} {f : Ends S A E} {second : Contract U A E} {e : Ends U A E} → LawfulEnds first f → LawfulEnds second e → LawfulEnds (chain_contract first second) (chain_ends first f second e)
lawful_ends_chain {first = first} {f = f} {second = second} {e = e} l k = record {
  front_can = λ p c. (l.front_can p.0 c.0, k.front_can p.1 c.1);
  may_give = chain_may_come_by_each_part l.may_give k.may_give;
  may_fail = chain_may_come_by_each_part l.may_fail k.may_fail;
  front = lawful_chain l.front k.front;
  back = record {
    kept_by_draw = λ p r q c step. kept_by_draw_back (from_back first f) (from_back second e) (chain_ends first f second e).steps (chain_ends first f second e).traces (chain_ends first f second e).sound p r q ((lawful_chain k.back l.back).kept_by_draw (chain_back p) r (chain_back q) (c.1, c.0) step);
    bounded = (lawful_chain l.back k.back).bounded;
    traced = traces_are_of_parts chain_back chain_back chain_back_twice chain_back_twice (chain_step e.steps f.steps) (chains_all e.traces f.traces) (chain_traced k.back.traced l.back.traced);
    hold = chain_back_hold (from_back first f) (from_back second e) l.back.hold k.back.hold;
  };
}
