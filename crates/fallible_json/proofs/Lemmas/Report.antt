-- What was read of texts, and what is written of them.
use Rattle.std.proofs.Common.{Bool, true, false, ◌≡◌, inl, inr, ℕ, ◌+◌, ◌-◌, ◌*◌, ◌<◌, ◌≤◌, ◌^◌, List, [], ◌∷◌, ◌++◌, length, take, drop, Option, Ok, Err, refl, sym, ap, subst, ◌∙◌, arith, append-nil, length-append, length-take, length-drop, reverse, take_all, take-add, take-append-drop, max}
use Rattle.std.proofs.lemmas.List.{drop-drop, drop-take, length-reverse}
use borrow.Author.Tests.{ne_eqb}
use Rattle.std.specs.Io.KnownBytes.{Appends}
use Rattle.std.specs.Prelude.{◌==◌, not}
use Rattle.std.specs.Option.{is_some}
use Rattle.std.specs.Str.Lossy.{utf8_error_len, utf8_valid_len}
use Rattle.fallible_iterator.specs.Fault.{Fault}
use Rattle.fallible_iterator.specs.Fault.TheVariants.{Source, Memory}
use Rattle.fallible_json.specs.Taking.{BeginWithLeft, CountsUpTo, EndTexts, Fits, IsLeft, Takes, begun_of, ended_of, ◌before◌}
use Rattle.fallible_json.specs.Texts.{complete, cut, texts_after}
use Rattle.fallible_json.specs.Json.{not_text_at}
use Rattle.fallible_json.specs.Places.{place_after_bytes}
use Rattle.fallible_json.specs.Writing.{CanTell, FindsBroken, Sends, TakesLast, TakesPart, valid_of}
use Rattle.fallible_json.specs.declared.report.Prints.{Prints}
use Rattle.fallible_json.specs.declared.report.Prints.TheVariants as how
use Rattle.fallible_json.proofs.Lemmas.FewTexts.{few_before}
use Rattle.fallible_json.specs.declared.fault.JsonFault.{JsonFault}
use Rattle.fallible_json.specs.declared.texts.Texts.{Texts}
use Rattle.fallible_json.specs.declared.token.Phase.{Phase}

-- ---- a fault can be told

can_tell_ended : (t u : Texts) (texts : List (List ℕ)) (f : JsonFault) (n : ℕ) → EndTexts t texts u → length texts ≤ n + 1 → t.count + n < 2 ^ 63 → CanTell u (Source f)
can_tell_ended t u texts f n ended few room = let count = ended.count in (ended.whole, omega (arith, count, few, room))

pub can_tell_part : (t : Texts) (bytes : List ℕ) (checked : ℕ) (refused : Type 0) (u : Texts) (fault : Fault JsonFault) → Fits t (2 * length bytes + 1) → TakesPart t bytes checked refused u (Err fault) → CanTell u fault
can_tell_part t bytes checked refused u (Source f) fits (within, inl h) =
    let n = valid_of t bytes checked in
    let few = few_before _ _ _ _ h.texts _ (h.fails [] complete) in
    can_tell_ended t u h.texts f (length bytes + 1) h.ended (omega (arith, few, length-append (take n bytes) [], length-take n bytes)) (let room = fits.1 in omega (arith, room))
can_tell_part t bytes checked refused u (Source f) fits (within, inr h) =
    let n = valid_of t bytes checked in
    let few = few_before _ _ _ _ h.0.texts _ h.0.breaks in
    can_tell_ended t u h.0.texts f (length bytes + 1) h.0.ended (omega (arith, few, length-take n bytes)) (let room = fits.1 in omega (arith, room))
can_tell_part t bytes checked refused u (Memory e) fits h = tt

pub can_tell_last : (t : Texts) (bytes : List ℕ) (checked : ℕ) (refused : Type 0) (u : Texts) (fault : Fault JsonFault) → Fits t (2 * length bytes + 1) → TakesLast t bytes checked refused u (Err fault) → CanTell u fault
can_tell_last t bytes checked refused u (Source f) fits (inl h) =
    let few = few_before _ _ _ _ h.1.texts _ h.1.fails in
    let room = fits.1 in
    can_tell_ended t u h.1.texts f (length bytes) h.1.ended few (omega (arith, room))
can_tell_last t bytes checked refused u (Source f) fits (inr h) = let room = fits.1 in subst (λ (s : Texts). CanTell s (Source f)) (sym h.1) (fits.0, omega (arith, room))
can_tell_last t bytes checked refused u (Memory e) fits h = tt

-- ---- what is written and let go of

-- what is let go of
pub record Forgets (t : Texts) (all : Bool) (u : Texts) : Type 0 where
  pub state : (begun_of u).0 ≡ (begun_of t).0
  pub ended : all ≡ false → begun_of u ≡ begun_of t
  pub begun : all ≡ true → (begun_of u).1 ≡ []
  pub none : ended_of u ≡ []
  pub count : u.count ≡ t.count
  pub place : u.place ≡ t.place
  pub seen : u.seen ≡ t.seen
  pub whole : u.whole ≤ length u.lines.items

pub some_open : {A : Type 0} (l : List A) (n : ℕ) (all : Bool) → n ≡ length l → all ≡ not (n == 0) → all ≡ true → 0 < length (reverse l)
some_open [] n all long is h = absurd (let e : not (n == 0) ≡ false = ap (λ (k : ℕ). not (k == 0)) long in let f : false ≡ true = sym e ∙ sym is ∙ h in cc)
some_open (x ∷ l) n all long is h = let k = length-reverse (x ∷ l) in omega (arith, k)

pub all_open : {A : Type 0} (l : List A) (n : ℕ) (all : Bool) → n ≡ length l → all ≡ not (n == 0) → 0 < length (reverse l) → all ≡ true
all_open {A = A} [] n all long is h = absurd (let k = length-reverse {A = A} [] in omega (arith, k, h))
all_open (x ∷ l) n all long is h = is ∙ ap (λ (k : ℕ). not (k == 0)) long ∙ ap not (ne_eqb (length (x ∷ l)) 0 (omega arith))

pub sends_ended : (prints : Prints) (written written' : Option (List ℕ)) (t u : Texts) (all : Bool) (count : ℕ) → Appends written written' (take count t.lines.items) → (all ≡ false → count ≡ t.whole) → (all ≡ true → count ≡ length t.lines.items) → (all ≡ true → (prints ≡ how.Tokens) × (0 < length (begun_of t).0.0)) → (prints ≡ how.Tokens → 0 < length (begun_of t).0.0 → all ≡ true) → Forgets t all u → Sends prints written written' t u
sends_ended prints written written' t u false count wrote whole long within each f =
    let same = f.ended refl in
    record {
      sent = [];
      wrote = subst (Appends written written') (ap (λ n. take n t.lines.items) (whole refl) ∙ sym (append-nil (ended_of t))) wrote;
      plain = λ h. refl;
      within = inl refl;
      all = λ tokens open'. absurd (let never : false ≡ true = each tokens open' in cc);
      state = f.state;
      json = sym (ap (λ b. b.1) same);
      none = f.none;
      whole = f.whole;
      count = f.count;
      place = f.place;
      seen = f.seen;
    }
sends_ended prints written written' t u true count wrote whole long within each f =
    let none = f.begun refl in
    let tokens = within refl in
    let all : take count t.lines.items ≡ ended_of t ++ (begun_of t).1 = ap (λ n. take n t.lines.items) (long refl) ∙ take_all (length t.lines.items) t.lines.items (omega arith) ∙ sym (take-append-drop t.whole t.lines.items) in
    record {
      sent = (begun_of t).1;
      wrote = subst (Appends written written') all wrote;
      plain = λ h. absurd (let e : how.Tokens ≡ how.Texts = sym tokens.0 ∙ h in cc);
      within = inr tokens.1;
      all = λ h open'. none;
      state = f.state;
      json = sym (ap (λ l. (begun_of t).1 ++ l) none ∙ append-nil (begun_of t).1);
      none = f.none;
      whole = f.whole;
      count = f.count;
      place = f.place;
      seen = f.seen;
    }

-- ---- a part that was taken

-- it begins with what was left
pub left_in_part : (seen : Option (ℕ × Phase)) (bytes : List ℕ) (checked more : ℕ) → IsLeft seen (take checked bytes) → BeginWithLeft seen (take (checked + more) bytes)
left_in_part seen bytes checked more h = (take checked bytes, take more (drop checked bytes), take-add checked more bytes, h)

pub part_taken : (refused : Type 0) {t u : Texts} {taken : ℕ} (bytes : List ℕ) (checked more : ℕ) → checked ≤ length bytes → more ≡ utf8_valid_len (take (length bytes - checked) (drop checked bytes)) → more ≤ length (take (length bytes - checked) (drop checked bytes)) → Takes t (take (checked + more) bytes) taken u → is_some (utf8_error_len (drop more (take (length bytes - checked) (drop checked bytes)))) ≡ false → TakesPart t bytes checked refused u (Ok (taken, checked + more))
part_taken refused bytes checked more within is' few' h unbroken' =
    let long = length-drop checked bytes in
    let whole : take (length bytes - checked) (drop checked bytes) ≡ drop checked bytes = take_all (length bytes - checked) (drop checked bytes) (omega (arith, long)) in
    let is : more ≡ utf8_valid_len (drop checked bytes) = is' ∙ ap utf8_valid_len whole in
    let few : more ≤ length (drop checked bytes) = subst (λ l. more ≤ length l) whole few' in (
      ap (λ (k : ℕ). checked + k) is,
      omega (arith, few, long, within),
      h,
      subst (λ (k : ℕ). is_some (utf8_error_len (drop k (drop checked bytes))) ≡ false) is (subst (λ l. is_some (utf8_error_len (drop more l)) ≡ false) whole unbroken'),
    )

-- ---- a byte that is no UTF-8

pub fits_after : (t u : Texts) (bytes : List ℕ) (valid taken : ℕ) → Fits t (2 * length bytes + 1) → Takes t (take valid bytes) taken u → Fits u (length (take (valid - taken) (drop taken bytes)))
fits_after t u bytes valid taken fits h =
    let n = max t.count (max (t.place.0 - 1) (t.place.1 - 1)) in
    let counts : CountsUpTo t n = (omega arith, omega arith, omega arith) in
    let after = h.counts n counts in
    let a = after.0 in
    let b = after.1 in
    let d = after.2 in
    let p = fits.1 in
    let q = fits.2 in
    let r = fits.3 in
    let within = h.within in
    let long = length-take valid bytes in
    let few = length-take (valid - taken) (drop taken bytes) in
    let rest = length-drop taken bytes in
    (h.ended.whole, omega (arith, a, p, q, r, within, long, few, rest), omega (arith, b, p, q, r, within, long, few, rest), omega (arith, d, p, q, r, within, long, few, rest))

pub finds_broken : {t u : Texts} {bytes : List ℕ} {taken : ℕ} → Takes t bytes taken u → (rest : List ℕ) → drop taken bytes ≡ rest → (f : JsonFault) → f ≡ not_text_at (place_after_bytes u.place rest) → FindsBroken t bytes f u
finds_broken {t = t} {u = u} {bytes = bytes} {taken = taken} h rest are f is =
    let place : f ≡ not_text_at (place_after_bytes u.place (drop taken bytes)) = is ∙ ap (λ l. not_text_at (place_after_bytes u.place l)) (sym are) in
    record {
      texts = h.texts;
      ended = h.ended;
      place = place_after_bytes u.place rest;
      is = is;
      breaks = ap (λ l. texts_after cut t.place (begun_of t) l) (sym (append-nil bytes)) ∙ h.goes [] cut ∙ ap (λ l. h.texts before texts_after cut u.place (begun_of u) l) (append-nil (drop taken bytes)) ∙ ap (λ l. h.texts before l) h.most ∙ ap (λ x. h.texts before Err ((begun_of u).1, x) ∷ []) (sym place);
    }

pub part_broken : (refused : Type 0) {t u : Texts} {taken : ℕ} (bytes : List ℕ) (checked more : ℕ) (f : JsonFault) → checked ≤ length bytes → more ≡ utf8_valid_len (take (length bytes - checked) (drop checked bytes)) → more ≤ length (take (length bytes - checked) (drop checked bytes)) → Takes t (take (checked + more) bytes) taken u → f ≡ not_text_at (place_after_bytes u.place (take (checked + more - taken) (drop taken bytes))) → is_some (utf8_error_len (drop more (take (length bytes - checked) (drop checked bytes)))) ≡ true → TakesPart t bytes checked refused u (Err (Source f))
part_broken refused {t = t} {u = u} {taken = taken} bytes checked more f within is' few' h told broken' =
    let long = length-drop checked bytes in
    let whole : take (length bytes - checked) (drop checked bytes) ≡ drop checked bytes = take_all (length bytes - checked) (drop checked bytes) (omega (arith, long)) in
    let is : more ≡ utf8_valid_len (drop checked bytes) = is' ∙ ap utf8_valid_len whole in
    let few : more ≤ length (drop checked bytes) = subst (λ l. more ≤ length l) whole few' in
    let broken : is_some (utf8_error_len (drop more (drop checked bytes))) ≡ true = subst (λ l. is_some (utf8_error_len (drop more l)) ≡ true) whole broken' in
    let n = valid_of t bytes checked in
    let same : checked + more ≡ n = ap (λ (k : ℕ). checked + k) is in
    let l = h.within in
    let m = length-take (checked + more) bytes in
    let e : taken + (checked + more - taken) ≡ checked + more = omega (arith, l, m) in
    let are : drop taken (take (checked + more) bytes) ≡ take (checked + more - taken) (drop taken bytes) = ap (λ (k : ℕ). drop taken (take k bytes)) (sym e) ∙ drop-take taken (checked + more - taken) bytes in
    let found = finds_broken h (take (checked + more - taken) (drop taken bytes)) are f told in
    let room : n ≤ length bytes = omega (arith, same, few, long, within) in (
      room,
      inr (
        subst (λ (k : ℕ). FindsBroken t (take k bytes) f u) same found,
        ap (λ l'. is_some (utf8_error_len l')) (ap (λ (k : ℕ). drop k bytes) (sym same) ∙ sym (drop-drop more checked bytes)) ∙ broken,
      ),
    )
