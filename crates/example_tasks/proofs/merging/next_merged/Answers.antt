-- Each way out is one of the lemmas.
use Rattle.std.proofs.Common.{rules, ◌≡◌, ◌∙◌, Ok, Err, Some, None, nat_lt, sym}
use Rattle.fallible_iterator.specs.Lists.{rest_first, rest_if, rest_look, nth_of}
use Rattle.example_tasks.proofs.Lemmas.Merging.{gives_failure_of_left, gives_right_alone, gives_failure_of_right, gives_right, gives_left, looked_first}
use Rattle.example_tasks.proofs.merging.next_merged.Goals as goal

pub returns-in_err-first-clause-value : goal.returns-in_err-first-clause-value
returns-in_err-first-clause-value g c a b la lb =
    let is : c.from_residual.result ≡ Err c.in_err-first.field-0.0 = search rules in
    is ∙ (gives_failure_of_left _ a b (c.in_err-first.ensures.lists a la).0).0

pub returns-in_err-first-clause-rest : goal.returns-in_err-first-clause-rest
returns-in_err-first-clause-rest g c a b la lb no_end =
    let looked = c.in_err-first.ensures.lists a la in
    record {
      left = rest_look a;
      right = b;
      lists_left = looked.1;
      lists_right = lb;
      is = (gives_failure_of_left _ a b looked.0).1;
    }

pub returns-in_default-clause-value : goal.returns-in_default-clause-value
returns-in_default-clause-value g c a b la lb =
    let none : c.in_ok-first.field-0 ≡ None = search rules in
    (gives_right_alone _ a b (rw (sym none) (c.in_ok-first.ensures.lists a la).0) (c.draw.ensures.value b lb)).0

pub returns-in_default-clause-rest : goal.returns-in_default-clause-rest
returns-in_default-clause-rest g c a b la lb no_end =
    let none : c.in_ok-first.field-0 ≡ None = search rules in
    let looked = c.in_ok-first.ensures.lists a la in
    record {
      left = rest_look a;
      right = rest_first b;
      lists_left = looked.1;
      lists_right = c.draw.ensures.rest b lb no_end;
      is = (gives_right_alone _ a b (rw (sym none) looked.0) (c.draw.ensures.value b lb)).1;
    }

pub returns-in_err-second-clause-value : goal.returns-in_err-second-clause-value
returns-in_err-second-clause-value g c a b la lb =
    let is : c.from_residual-in_err-second.result ≡ Err c.in_err-second.field-0.0 = search rules in
    let taken = c.in_err-second.ensures.lists (λ y. nat_lt y c.in-Some.first) b (search rules) lb in
    is ∙ (gives_failure_of_right _ _ a b (rw (sym c.in-Some.is) (c.in_ok-first.ensures.lists a la).0) taken.0).0

pub returns-in_err-second-clause-rest : goal.returns-in_err-second-clause-rest
returns-in_err-second-clause-rest g c a b la lb no_end =
    let looked = c.in_ok-first.ensures.lists a la in
    let taken = c.in_err-second.ensures.lists (λ y. nat_lt y c.in-Some.first) b (search rules) lb in
    record {
      left = rest_look a;
      right = rest_if (λ y. nat_lt y c.in-Some.first) b;
      lists_left = looked.1;
      lists_right = taken.1;
      is = (gives_failure_of_right c.in-Some.first _ a b (rw (sym c.in-Some.is) looked.0) taken.0).1;
    }

pub returns-in-Some-2-clause-value : goal.returns-in-Some-2-clause-value
returns-in-Some-2-clause-value g c a b la lb =
    let taken = c.in_ok-second.ensures.lists (λ y. nat_lt y c.in-Some.first) b (search rules) lb in
    (gives_right c.in-Some.first c.in-Some-2.second a b (rw (sym c.in-Some.is) (c.in_ok-first.ensures.lists a la).0) (rw (sym c.in-Some-2.is) taken.0)).0

pub returns-in-Some-2-clause-rest : goal.returns-in-Some-2-clause-rest
returns-in-Some-2-clause-rest g c a b la lb no_end =
    let looked = c.in_ok-first.ensures.lists a la in
    let taken = c.in_ok-second.ensures.lists (λ y. nat_lt y c.in-Some.first) b (search rules) lb in
    record {
      left = rest_look a;
      right = rest_if (λ y. nat_lt y c.in-Some.first) b;
      lists_left = looked.1;
      lists_right = taken.1;
      is = (gives_right c.in-Some.first c.in-Some-2.second a b (rw (sym c.in-Some.is) looked.0) (rw (sym c.in-Some-2.is) taken.0)).1;
    }

pub returns-in-None-clause-value : goal.returns-in-None-clause-value
returns-in-None-clause-value g c a b la lb =
    let looked = c.in_ok-first.ensures.lists a la in
    let first : Ok (Some c.in-Some.first) ≡ nth_of 0 a = rw (sym c.in-Some.is) looked.0 in
    let taken = c.in_ok-second.ensures.lists (λ y. nat_lt y c.in-Some.first) b (search rules) lb in
    c.draw-in-None.ensures.value _ looked.1 ∙ sym (looked_first _ a first) ∙ (gives_left _ a b first (rw (sym c.in-None.is) taken.0)).0

pub returns-in-None-clause-rest : goal.returns-in-None-clause-rest
returns-in-None-clause-rest g c a b la lb no_end =
    let looked = c.in_ok-first.ensures.lists a la in
    let taken = c.in_ok-second.ensures.lists (λ y. nat_lt y c.in-Some.first) b (search rules) lb in
    record {
      left = rest_first (rest_look a);
      right = rest_if (λ y. nat_lt y c.in-Some.first) b;
      lists_left = c.draw-in-None.ensures.rest _ looked.1 no_end;
      lists_right = taken.1;
      is = (gives_left _ a b (rw (sym c.in-Some.is) looked.0) (rw (sym c.in-None.is) taken.0)).1;
    }
