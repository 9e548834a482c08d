-- The contract of an adapter that makes each answer of several draws, as a part of its own says.
use Rattle.std.specs.Prelude.{◌≡◌, List, None}
use Rattle.fallible_contract.specs.Traces.{Answered, failure, item}
use Rattle.fallible_contract.specs.Sound.{own_sound}
use Rattle.fallible_contract.specs.Contract.{Contract}
use Rattle.fallible_contract.specs.Own.{Gathers, GathersAll, MadeOfComing}

-- As `gathering`, beside a part that stays, which says too which answer comes of which trace.
abbrev pub gathering_by : {P K A E B F : Type 0} → (K → List (Answered A E) → Answered B F → Type 0) → Contract P A E → Contract (P × K) B F
gathering_by made m = record {
  can_next = λ p. m.can_next p.0;
  steps = λ p r q. Gathers m.steps (made p.1) p.0 r q.0 × (q.1 ≡ p.1);
  bound = λ p n. m.bound p.0 n;
  is_finite = λ p. m.is_finite p.0;
  remaining = λ p. m.remaining p.0;
  may_give = λ p y. MadeOfComing m p.0 (made p.1) (item y);
  may_fail = λ p f. MadeOfComing m p.0 (made p.1) (failure f);
  hints = λ _ h. h ≡ (0, None);
  lenders = λ p. m.lenders p.0;
  traces = λ p trace q. GathersAll m.traces (made p.1) p.0 trace q.0 × (q.1 ≡ p.1);
  sound = own_sound (λ p r q. Gathers m.steps (made p.1) p.0 r q.0 × (q.1 ≡ p.1));
}
