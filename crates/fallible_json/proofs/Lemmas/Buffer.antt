-- What a buffer holds of the bytes that were read, and what a run comes to.
use Rattle.std.proofs.Common.{true, false, ◌≡◌, inl, inr, ℕ, ◌+◌, ◌-◌, ◌*◌, ◌≤◌, ◌^◌, List, [], ◌++◌, length, take, drop, Option, Some, None, Result, Ok, Err, refl, sym, ap, subst, ◌∙◌, arith, append_assoc, length-append, length-take, length-drop, take-add, take-append-drop}
use Rattle.std.proofs.KnownBytes.{Consumes-kept, Consumes-nil, Keeps-refl}
use Rattle.std.proofs.Math.Seq.{take-append-add, drop-append-add, drop-append_seam, take-append_seam}
use Rattle.std.proofs.lemmas.List.{drop-append-le, drop-take}
use Rattle.std.proofs.lemmas.Str.{utf8_valid_len_le}
use Rattle.std.specs.Io.KnownBytes.{Appends, Consumes, IsAtEnd, Keeps}
use Rattle.std.specs.Option.{is_some}
use Rattle.std.specs.Str.Lossy.{utf8_error_len, utf8_valid_len}
use Rattle.std.specs.declared.io.ErrorKind.{ErrorKind}
use Rattle.std.specs.declared.io.ErrorKind.TheVariants.{OutOfMemory}
use Rattle.program_io.proofs.Lemmas.Reading.{fails_after}
use Rattle.program_io.specs.Reading.{Fails}
use Rattle.program_io.specs.declared.fault.RunFault.{RunFault}
use Rattle.program_io.specs.declared.fault.RunFault.TheVariants as run
use Rattle.fallible_iterator.specs.Fault.TheVariants.{Source, Memory}
use Rattle.fallible_json.specs.Json.{not_text_at}
use Rattle.fallible_json.specs.Places.{place_after_bytes}
use Rattle.fallible_json.specs.Report.{ComesTo}
use Rattle.fallible_json.specs.Taking.{FindsFault, Fits, IsLeft, Takes}
use Rattle.fallible_json.specs.Writing.{EndsFault, Fills, FindsBroken, PrintsLast, PrintsPart, TakesLast, TakesPart, last_lines, valid_of}
use Rattle.fallible_json.proofs.Lemmas.SoFar.{Read, SoFar, all_printed, so_far_read, so_far_taken, some_of_read, told_of_broken, told_of_cut, told_of_fault, told_of_last, writes_read, writes_some}
use Rattle.fallible_json.proofs.Lemmas.Utf8.{valid_after}
use Rattle.fallible_json.specs.declared.fault.JsonFault.{JsonFault}
use Rattle.fallible_json.specs.declared.fault.TextFault.{TextFault}
use Rattle.fallible_json.specs.declared.report.Prints.{Prints}
use Rattle.fallible_json.specs.declared.texts.Texts.{Texts}

-- The first `held` bytes of a buffer are those that are not taken yet, of which the first `checked` are UTF-8; so many were read.
pub record Holds (prints : Prints) (unread unread' written written' : Option (List ℕ)) (t : Texts) (buffer : List ℕ) (held checked read : ℕ) : Type 0 where
  pub front : List ℕ
  pub rest : List ℕ
  pub are : take held buffer ≡ front ++ rest
  pub room : held ≤ length buffer
  pub checked_are : length front ≡ checked
  pub so_far : Read prints unread unread' written written' t front rest read

module _ {prints : Prints} {unread unread' written written' : Option (List ℕ)} {t : Texts} {front rest : List ℕ} {read : ℕ} (s : Read prints unread unread' written written' t front rest read) where
  pub read_kept : (unread'' : Option (List ℕ)) → Keeps unread' unread'' → Read prints unread unread'' written written' t front rest read
  read_kept unread'' kept = record {
    so_far = record {
      done = s.so_far.done;
      taken = Consumes-kept unread unread' unread'' (s.so_far.done ++ (front ++ rest)) s.so_far.taken kept;
      text = s.so_far.text;
      texts = s.so_far.texts;
      sent = s.so_far.sent;
      goes = s.so_far.goes;
      most = s.so_far.most;
      ends = s.so_far.ends;
      plain = s.so_far.plain;
      wrote = s.so_far.wrote;
      none = s.so_far.none;
      whole = s.so_far.whole;
      counts = s.so_far.counts;
      number = s.so_far.number;
      soon = s.so_far.soon;
      left = s.so_far.left;
    };
    valid = s.valid;
    long = s.long;
    unbroken = s.unbroken;
  }

  -- how many are held
  held_within : length front + length rest + length s.so_far.done ≡ read
  held_within = let a = length-append s.so_far.done (front ++ rest) in let b = length-append front rest in let c = s.long in omega (arith, a, b, c)

-- what was left stands first
pub left_held : {prints : Prints} {unread unread' written written' : Option (List ℕ)} {t : Texts} {buffer : List ℕ} {held checked read : ℕ} → Holds prints unread unread' written written' t buffer held checked read → (bytes more : List ℕ) → bytes ≡ take held buffer ++ more → IsLeft t.seen (take checked bytes)
left_held {t = t} {buffer = buffer} {held = held} {checked = checked} h bytes more is =
    let front = h.front in
    let here : take checked bytes ≡ front = ap (take checked) (is ∙ ap (λ l. l ++ more) h.are ∙ append_assoc front h.rest more) ∙ ap (λ (n : ℕ). take n (front ++ (h.rest ++ more))) (sym h.checked_are) ∙ take-append_seam front (h.rest ++ more) in
    subst (IsLeft t.seen) (sym here) h.so_far.so_far.left

-- what a buffer holds has room in the numbers
pub fits_held : {prints : Prints} {unread unread' written written' : Option (List ℕ)} {t : Texts} {buffer : List ℕ} {held checked read : ℕ} → Holds prints unread unread' written written' t buffer held checked read → (n k : ℕ) → read + n ≤ 2 ^ 61 → k ≤ 2 * (held + n) + 1 → Fits t k
fits_held {buffer = buffer} {held = held} h n k few within =
    let long = length-take held buffer in
    let both = length-append h.front h.rest in
    let same : length (take held buffer) ≡ length (h.front ++ h.rest) = ap length h.are in
    let room = h.room in
    let all = held_within h.so_far in
    let a = h.so_far.so_far.counts.0 in
    let b = h.so_far.so_far.counts.1 in
    let c = h.so_far.so_far.counts.2 in
    (h.so_far.so_far.whole, omega (arith, long, both, same, room, all, few, within, a), omega (arith, long, both, same, room, all, few, within, b), omega (arith, long, both, same, room, all, few, within, c))

pub held_read : {prints : Prints} {unread unread' written written' : Option (List ℕ)} {t : Texts} {buffer : List ℕ} {held checked read : ℕ} → Holds prints unread unread' written written' t buffer held checked read → (checked ≤ held) × (held ≤ read)
held_read {buffer = buffer} {held = held} h =
    let long = length-take held buffer in
    let both = length-append h.front h.rest in
    let same : length (take held buffer) ≡ length (h.front ++ h.rest) = ap length h.are in
    let room = h.room in
    let is = h.checked_are in
    let all = held_within h.so_far in
    (omega (arith, long, both, same, room, is), omega (arith, long, both, same, room, all))

keeps_of_none : (a b : Option (List ℕ)) (l : List ℕ) → l ≡ [] → Consumes a b l → Keeps a b
keeps_of_none None b l none h = tt
keeps_of_none (Some xs) None l none h = absurd h
keeps_of_none (Some xs) (Some ys) l none h = sym (h ∙ ap (λ k. k ++ ys) none)

module _ {R W : Type 0} (left : R → Option (List ℕ)) (fails : ErrorKind → R → R → Type 0) (r p q : R) (refused : Type 0) (prints : Prints) (failed : W → Type 0) (written written' written'' : Option (List ℕ)) (w : W) where
  abbrev Comes : Result (Unit {0}) (RunFault TextFault) → Type 0
  Comes outcome = ComesTo left (Fails left fails) r q refused prints failed written written'' w outcome

  module _ {t : Texts} {front rest : List ℕ} {read : ℕ} (s : Read prints (left r) (left p) written written' t front rest read) where
    abbrev Bytes : List ℕ
    Bytes = s.so_far.done ++ (front ++ rest)

    -- nothing more was read
    pub comes_of_fault : (fault told : RunFault TextFault) (old buffer : List ℕ) (held most : ℕ) → Fills left (Fails left fails) refused p old held most (Err fault) buffer q → EndsFault prints written' written'' (failed w) t fault told → Comes (Err told)
    comes_of_fault (run.Input x) told old buffer held most h ends = absurd h
    comes_of_fault run.Write told old buffer held most h ends = absurd h
    comes_of_fault run.Read told old buffer held most h (inl ends) =
        let k = read_kept s (left q) h.0 in
        subst (λ x. Comes (Err x)) (sym ends.0) (inl (h.1.0, h.1.1, fails_after left fails h.1.0 r p q Bytes s.so_far.taken h.1.2), writes_read k.so_far k.valid k.unbroken written'' ends.1)
    comes_of_fault run.Memory told old buffer held most (kept, inl h) (inl ends) =
        let k = read_kept s (left q) kept in
        subst (λ x. Comes (Err x)) (sym ends.0) (inl (fails_after left fails OutOfMemory r p q Bytes s.so_far.taken h), some_of_read (writes_read k.so_far k.valid k.unbroken written'' ends.1))
    comes_of_fault run.Memory told old buffer held most (kept, inr h) (inl ends) =
        let k = read_kept s (left q) kept in
        subst (λ x. Comes (Err x)) (sym ends.0) (inr h, some_of_read (writes_read k.so_far k.valid k.unbroken written'' ends.1))
    comes_of_fault run.Read told old buffer held most h (inr ends) =
        subst (λ x. Comes (Err x)) (sym ends.0) ((Bytes, Consumes-kept (left r) (left p) (left q) Bytes s.so_far.taken h.0), ends.1)
    comes_of_fault run.Memory told old buffer held most h (inr ends) =
        subst (λ x. Comes (Err x)) (sym ends.0) ((Bytes, Consumes-kept (left r) (left p) (left q) Bytes s.so_far.taken h.0), ends.1)

    -- ---- a part was read

    module _ (new : List ℕ) (came : Consumes (left p) (left q) new) where
      abbrev More : List ℕ
      More = rest ++ new

      more : SoFar prints (left r) (left q) written written' t front More
      more = (so_far_read s.so_far (left q) new came).0

      more_done : more.done ≡ s.so_far.done
      unfolding more
      more_done = (so_far_read s.so_far (left q) new came).1

      valid_len_of_front_and_more : (n : ℕ) → n ≡ valid_of t (front ++ More) (length front) → n ≡ length front + utf8_valid_len More
      valid_len_of_front_and_more n is = is ∙ ap (λ l. length front + utf8_valid_len l) (drop-append_seam front More)

      part_is : (n : ℕ) → n ≡ length front + utf8_valid_len More → take n (front ++ More) ≡ front ++ take (utf8_valid_len More) More
      part_is n is = ap (λ (k : ℕ). take k (front ++ More)) is ∙ take-append-add front More (utf8_valid_len More)

      comes_of_source : (u : Texts) (f : JsonFault) (told : RunFault TextFault) → TakesPart t (front ++ More) (length front) refused u (Err (Source f)) → EndsFault prints written' written'' (failed w) u (run.Input (record { text = u.count + 1; fault = f })) told → Comes (Err told)
      comes_of_source u f told (within, inl h) (inl ends) =
          let n = valid_of t (front ++ More) (length front) in
          subst (λ x. Comes (Err x)) (sym ends.0) (told_of_fault more (utf8_valid_len More) refl u f written'' (subst (λ l. FindsFault t l f u) (part_is n (valid_len_of_front_and_more n refl)) h) ends.1)
      comes_of_source u f told (within, inr h) (inl ends) =
          let n = valid_of t (front ++ More) (length front) in
          let v = valid_len_of_front_and_more n refl in
          subst (λ x. Comes (Err x)) (sym ends.0)
          (told_of_broken more (utf8_valid_len More) refl u f written'' (subst (λ l. FindsBroken t l f u) (part_is n v) h.0)
          (subst (λ l. is_some (utf8_error_len l) ≡ true) (ap (λ (k : ℕ). drop k (front ++ More)) v ∙ drop-append-add front More (utf8_valid_len More)) h.1) ends.1)
      comes_of_source u f told h (inr ends) = subst (λ x. Comes (Err x)) (sym ends.0) ((more.done ++ (front ++ More), more.taken), ends.1)

      pub comes_of_part : (told : RunFault TextFault) → PrintsPart prints written' written'' (failed w) refused t (front ++ More) (length front) t (Err told) → Comes (Err told)
      comes_of_part told (inl ends) = subst (λ x. Comes (Err x)) (sym ends.0) ((more.done ++ (front ++ More), more.taken), ends.1)
      comes_of_part told (inr (u, Source f, takes, tells)) = comes_of_source u f told takes tells
      comes_of_part told (inr (u, Memory e, takes, tells)) = subst (λ x. Comes (Err x)) (sym tells.0) (inr takes, writes_some s.so_far s.valid s.unbroken (left q) written'' new came tells.1)

      -- it was taken, and what is printed of it was written
      pub took : (v : Texts) (taken valid : ℕ) → PrintsPart prints written' written'' (failed w) refused t (front ++ More) (length front) v (Ok (taken, valid)) → (front' : List ℕ) × (rest' : List ℕ) × (front' ++ rest' ≡ drop taken (front ++ More)) × (length front' ≡ valid - taken) × (taken ≤ valid) × Read prints (left r) (left q) written written'' v front' rest' (read + length new)
      took v taken valid (u, (is, within, h, unbroken), sends) =
          let n = utf8_valid_len More in
          let few = utf8_valid_len_le More in
          let v' = valid_len_of_front_and_more valid is in
          let part = front ++ take n More in
          let takes : Takes t part taken u = subst (λ l. Takes t l taken u) (part_is valid v') h in
          let in_part = takes.within in
          let long : length part ≡ valid = length-append front (take n More) ∙ (let k = length-take n More in omega (arith, k, few, v')) in
          let after = so_far_taken more sends n taken refl takes in
          let front' = drop taken part in
          let done_is : after.0.done ≡ s.so_far.done ++ take taken part = after.1 ∙ ap (λ l. l ++ take taken part) more_done in
          let whole : part ++ drop n More ≡ front ++ More = append_assoc front (take n More) (drop n More) ∙ ap (λ l. front ++ l) (take-append-drop n More) in
          let left_over : drop taken part ++ drop n More ≡ drop taken (front ++ More) = sym (drop-append-le taken part (drop n More) in_part) ∙ ap (drop taken) whole in
          let done' = s.so_far.done ++ take taken part in
          let all : done' ++ (drop taken part ++ drop n More) ≡ s.so_far.done ++ (front ++ More) =
          append_assoc s.so_far.done (take taken part) (drop taken part ++ drop n More)
          ∙ ap (λ l. s.so_far.done ++ l) (sym (append_assoc (take taken part) (drop taken part) (drop n More)) ∙ ap (λ l. l ++ drop n More) (take-append-drop taken part) ∙ whole) in
          let valid_all : utf8_valid_len (s.so_far.done ++ (front ++ More)) ≡ length (s.so_far.done ++ front) + n = ap utf8_valid_len (sym (append_assoc s.so_far.done front More)) ∙ valid_after (s.so_far.done ++ front) More s.so_far.text in
          let a = length-append done' (drop taken part) in
          let b = length-append s.so_far.done (take taken part) in
          let c = length-append s.so_far.done front in
          let d = length-take taken part in
          let e = length-drop taken part in
          let g = held_within s in
          let m = length-append s.so_far.done (front ++ More) in
          let j = length-append front More in
          let k = length-append rest new in (
            drop taken part,
            drop n More,
            left_over,
            omega (arith, e, long),
            omega (arith, in_part, long),
            record {
              so_far = after.0;
              valid = subst (λ l. utf8_valid_len (l ++ (front' ++ drop n More)) ≡ length (l ++ front')) (sym done_is) (ap utf8_valid_len all ∙ valid_all ∙ (let f : length (s.so_far.done ++ front) + n ≡ length (done' ++ front') = omega (arith, a, b, c, d, e, long, in_part, v') in f));
              long = subst (λ l. length (l ++ (front' ++ drop n More)) ≡ read + length new) (sym done_is) (ap length all ∙ (let f : length (s.so_far.done ++ (front ++ More)) ≡ read + length new = omega (arith, m, j, k, g) in f));
              unbroken = subst (λ l. is_some (utf8_error_len (drop (utf8_valid_len l) l)) ≡ false) (drop-append_seam front More) unbroken;
            },
          )

  -- ---- the end was met

  module _ {t : Texts} {front rest : List ℕ} {read : ℕ} (s : Read prints (left r) (left q) written written' t front rest read) (end : IsAtEnd (left q)) where
    comes_of_last_source : (u : Texts) (f : JsonFault) (told : RunFault TextFault) → TakesLast t (front ++ rest) (length front) refused u (Err (Source f)) → EndsFault prints written' written'' (failed w) u (run.Input (record { text = u.count + 1; fault = f })) told → Comes (Err told)
    comes_of_last_source u f told (inl h) (inl ends) = subst (λ x. Comes (Err x)) (sym ends.0) (told_of_last s.so_far s.valid u f written'' end h.0 h.1 ends.1)
    comes_of_last_source u f told (inr (some, same, is)) (inl ends) =
        let told_at = told_of_cut s.so_far s.valid f written'' end some (is ∙ ap (λ l. not_text_at (place_after_bytes t.place l)) (take-append_seam front rest)) (subst (λ (x : Texts). Appends written' written'' (last_lines prints x)) same ends.1) in
        subst (λ x. Comes (Err x)) (sym ends.0) (subst (λ (x : Texts). Comes (Err (run.Input (record { text = x.count + 1; fault = f })))) (sym same) told_at)
    comes_of_last_source u f told h (inr ends) = subst (λ x. Comes (Err x)) (sym ends.0) ((s.so_far.done ++ (front ++ rest), s.so_far.taken), ends.1)

    pub comes_of_last : (outcome : Result (Unit {0}) (RunFault TextFault)) → PrintsLast prints written' written'' (failed w) refused t (front ++ rest) (length front) outcome → Comes outcome
    comes_of_last (Ok done) (u, h, wrote) = all_printed s.so_far s.valid u written'' end h.0 h.1 wrote
    comes_of_last (Err told) (inl ends) = subst (λ x. Comes (Err x)) (sym ends.0) ((s.so_far.done ++ (front ++ rest), s.so_far.taken), ends.1)
    comes_of_last (Err told) (inr (u, Source f, takes, tells)) = comes_of_last_source u f told takes tells
    comes_of_last (Err told) (inr (u, Memory e, takes, tells)) = subst (λ x. Comes (Err x)) (sym tells.0) (inr takes, writes_some s.so_far s.valid s.unbroken (left q) written'' [] (Consumes-nil (left q)) tells.1)

  -- ---- by what the buffer holds

  module _ {t : Texts} {buffer : List ℕ} {held checked read : ℕ} (h : Holds prints (left r) (left p) written written' t buffer held checked read) where
    pub fault_comes : (fault told : RunFault TextFault) (new : List ℕ) (most : ℕ) → Fills left (Fails left fails) refused p buffer held most (Err fault) new q → EndsFault prints written' written'' (failed w) t fault told → Comes (Err told)
    fault_comes fault told new most fills ends = comes_of_fault h.so_far fault told buffer new held most fills ends

    -- too many bytes were read
    pub too_many_comes : (told : RunFault TextFault) → q ≡ p → 2 ^ 61 ≤ read → EndsFault prints written' written'' (failed w) t run.Read told → Comes (Err told)
    too_many_comes told same many (inl ends) =
        let k = read_kept h.so_far (left q) (subst (λ x. Keeps (left p) (left x)) (sym same) (Keeps-refl (left p))) in
        let long = k.long in
        subst (λ x. Comes (Err x)) (sym ends.0) (inr (k.so_far.done ++ (h.front ++ h.rest), k.so_far.taken, omega (arith, long, many)), writes_read k.so_far k.valid k.unbroken written'' ends.1)
    too_many_comes told same many (inr ends) =
        let k = read_kept h.so_far (left q) (subst (λ x. Keeps (left p) (left x)) (sym same) (Keeps-refl (left p))) in
        subst (λ x. Comes (Err x)) (sym ends.0) ((k.so_far.done ++ (h.front ++ h.rest), k.so_far.taken), ends.1)

    module _ (new now : List ℕ) (count most : ℕ) (fills : Fills left (Fails left fails) refused p buffer held most (Ok count) new q) (is : now ≡ new) where
      pub last_comes : (outcome : Result (Unit {0}) (RunFault TextFault)) → count ≡ 0 → PrintsLast prints written' written'' (failed w) refused t (take held now) checked outcome → Comes outcome
      last_comes outcome none prints_last =
          let k = read_kept h.so_far (left q) (keeps_of_none (left p) (left q) (take count (drop held new)) (ap (λ (n : ℕ). take n (drop held new)) none) fills.3) in
          let same : take held now ≡ h.front ++ h.rest = ap (take held) is ∙ fills.0 ∙ h.are in
          comes_of_last k (fills.4 none) outcome (subst (λ l. PrintsLast prints written' written'' (failed w) refused t l (length h.front) outcome) same (subst (λ (n : ℕ). PrintsLast prints written' written'' (failed w) refused t (take held now) n outcome) (sym h.checked_are) prints_last))

      filled_is : take (held + count) now ≡ h.front ++ (h.rest ++ take count (drop held new))
      filled_is = ap (take (held + count)) is ∙ take-add held count new ∙ ap (λ l. l ++ take count (drop held new)) (fills.0 ∙ h.are) ∙ append_assoc h.front h.rest (take count (drop held new))

      prints_part_of_front_and_rest : (v : Texts) (outcome : Result (ℕ × ℕ) (RunFault TextFault)) → PrintsPart prints written' written'' (failed w) refused t (take (held + count) now) checked v outcome → PrintsPart prints written' written'' (failed w) refused t (h.front ++ (h.rest ++ take count (drop held new))) (length h.front) v outcome
      prints_part_of_front_and_rest v outcome x = subst (λ l. PrintsPart prints written' written'' (failed w) refused t l (length h.front) v outcome) filled_is (subst (λ (n : ℕ). PrintsPart prints written' written'' (failed w) refused t (take (held + count) now) n v outcome) (sym h.checked_are) x)

      pub part_comes : (v : Texts) (told : RunFault TextFault) → PrintsPart prints written' written'' (failed w) refused t (take (held + count) now) checked v (Err told) → Comes (Err told)
      part_comes v told x = comes_of_part h.so_far (take count (drop held new)) fills.3 told (prints_part_of_front_and_rest v (Err told) x)

      pub turn : (v : Texts) (taken valid : ℕ) (buffer' : List ℕ) → PrintsPart prints written' written'' (failed w) refused t (take (held + count) now) checked v (Ok (taken, valid)) → length buffer' ≡ length new → take (held + count - taken) buffer' ≡ take (held + count - taken) (drop taken new) → Holds prints (left r) (left q) written written'' v buffer' (held + count - taken) (valid - taken) (read + count)
      turn v taken valid buffer' x long kept =
          let x' = prints_part_of_front_and_rest v (Ok (taken, valid)) x in
          let k = took h.so_far (take count (drop held new)) fills.3 v taken valid x' in
          let room = fills.1 in
          let part = x.1.1 in
          let filled = length-take (held + count) now in
          let same : length now ≡ length new = ap length is in
          let before = k.4 in
          let within : taken ≤ held + count = omega (arith, before, part, filled, same, room) in
          let e : taken + (held + count - taken) ≡ held + count = omega (arith, within) in
          let came = length-take count (drop held new) in
          let rest = length-drop held new in
          let number : length (take count (drop held new)) ≡ count = omega (arith, came, rest, room) in
          record {
            front = k.0;
            rest = k.1;
            are = kept ∙ sym (drop-take taken (held + count - taken) new) ∙ ap (λ (n : ℕ). drop taken (take n new)) e ∙ ap (drop taken) (ap (take (held + count)) (sym is) ∙ filled_is) ∙ sym k.2;
            room = omega (arith, long, room);
            checked_are = k.3;
            so_far = subst (λ (n : ℕ). Read prints (left r) (left q) written written'' v k.0 k.1 (read + n)) number k.5;
          }
