-- What was read of texts, and what was written of them, after each read.
use Rattle.std.proofs.Common.{true, false, ◌≡◌, ◌⊎◌, inl, inr, ⊎_elim, ℕ, ◌+◌, ◌<◌, ◌≤◌, List, [], ◌∷◌, ◌++◌, length, take, drop, map, Option, None, Ok, Err, IsUtf8, refl, sym, ap, subst, ◌∙◌, arith, append_assoc, append-nil, length-append, length-take, take-append-drop, eq-eqb}
use Rattle.std.specs.Prelude.{◌≢◌, ◌==◌}
use Rattle.std.proofs.KnownBytes.{Appends-nil, Appends-trans, Consumes-nil, Consumes-trans}
use Rattle.std.proofs.Math.Seq.{drop-append_seam, take-append-add, take-append_seam}
use Rattle.std.proofs.lemmas.Bool.{cases_lt, cond-true, cond-false}
use Rattle.std.proofs.lemmas.Grind.{flat_map-append}
use Rattle.std.proofs.lemmas.Str.{IsUtf8-append, IsUtf8-nil, utf8_valid_len-IsUtf8, utf8_valid_len_le}
use borrow.Author.Tests.{ne_eqb}
use Rattle.std.specs.Io.KnownBytes.{Appends, Consumes, IsAtEnd}
use Rattle.std.specs.Option.{is_some}
use Rattle.std.specs.Str.Lossy.{utf8_error_len, utf8_valid_len}
use Rattle.program_io.specs.Reading.{ReadsAll}
use Rattle.fallible_iterator.specs.Lists.{items, numbered}
use Rattle.fallible_itertools.specs.Lexing.{lexed_by}
use Rattle.fallible_json.specs.Grammar.{State, begin}
use Rattle.fallible_json.specs.Json.{not_text_at}
use Rattle.fallible_json.specs.Places.{place_after_bytes}
use Rattle.fallible_json.specs.Report.{HasTexts, WritesRead, WritesSome}
use Rattle.fallible_json.specs.Taking.{CountsUpTo, EndTexts, FindsFault, FindsLastFault, IsLeft, Takes, TakesAll, begun_of, ended_of, ◌before◌}
use Rattle.fallible_json.specs.Texts.{Ending, IsUnbroken, complete, cut, TextResult, lines_of, texts_after, texts_from, texts_of, texts_so_far}
use Rattle.fallible_json.specs.Writing.{FindsBroken, Sends, last_lines, printed}
use Rattle.fallible_json.proofs.Lemmas.Fronted.{before_twice, fronted, fronted_after, fronted_before, fronted_lines, fronted_nil, fronted_texts, fronted_twice, left_of, length_fronted, some_after}
use Rattle.fallible_json.proofs.Lemmas.Utf8.{valid_after, valid_broken, valid_front}
use Rattle.fallible_json.specs.declared.fault.JsonFault.{JsonFault}
use Rattle.fallible_json.specs.declared.report.Prints.{Prints}
use Rattle.fallible_json.specs.declared.report.Prints.TheVariants as how
use Rattle.fallible_json.specs.declared.texts.Texts.{Texts}

-- ---- the texts of bytes, by how many of these are UTF-8

-- all texts of bytes that are UTF-8, by how they end
abbrev pub all_texts : Ending → List ℕ → List TextResult
all_texts ending bytes = texts_after ending (1, 1) (begin, []) bytes

texts_of_whole : (bytes : List ℕ) → utf8_valid_len bytes ≡ length bytes → texts_of bytes ≡ all_texts complete bytes
texts_of_whole bytes all = cond-true (utf8_valid_len bytes == length bytes) _ _ (eq-eqb (utf8_valid_len bytes) (length bytes) all)

texts_of_cut : (bytes : List ℕ) (n : ℕ) → utf8_valid_len bytes ≡ n → n < length bytes → texts_of bytes ≡ all_texts cut (take n bytes)
texts_of_cut bytes n is short = cond-false (utf8_valid_len bytes == length bytes) _ _ (ne_eqb (utf8_valid_len bytes) (length bytes) (omega (arith, is, short))) ∙ ap (λ (k : ℕ). all_texts cut (take k bytes)) is

-- whatever comes after bytes that are UTF-8
texts_of_starts : (front rest : List ℕ) (texts : List TextResult) → IsUtf8 front → ((more : List ℕ) (ending : Ending) → all_texts ending (front ++ more) ≡ texts) → texts_of (front ++ rest) ≡ texts
texts_of_starts front rest texts u is =
    let n = utf8_valid_len rest in
    let valid = valid_after front rest u in
    let few = utf8_valid_len_le rest in
    let long = length-append front rest in
    ⊎_elim
    (λ (short : n < length rest). texts_of_cut (front ++ rest) (length front + n) valid (omega (arith, long, short)) ∙ ap (λ l. all_texts cut l) (take-append-add front rest n) ∙ is (take n rest) cut)
    (λ (all : length rest ≤ n). texts_of_whole (front ++ rest) (omega (arith, valid, few, long, all)) ∙ is rest complete)
    (cases_lt n (length rest))

-- the last bytes are a character that is cut off, or one byte is no UTF-8
texts_of_front : (front rest : List ℕ) → utf8_valid_len (front ++ rest) ≡ length front → 0 < length rest → texts_of (front ++ rest) ≡ all_texts cut front
texts_of_front front rest is some = texts_of_cut (front ++ rest) (length front) is (omega (arith, length-append front rest)) ∙ ap (λ l. all_texts cut l) (take-append_seam front rest)

so_far_of_front : (front rest : List ℕ) → utf8_valid_len (front ++ rest) ≡ length front → texts_so_far (front ++ rest) ≡ all_texts cut front
so_far_of_front front rest is = ap (λ (k : ℕ). all_texts cut (take k (front ++ rest))) is ∙ ap (λ l. all_texts cut l) (take-append_seam front rest)

cut_nothing : (origin : ℕ × ℕ) (state : State) (json : List ℕ) → texts_after cut origin (state, json) [] ≡ Err (json, not_text_at (place_after_bytes origin [])) ∷ []
unfolding texts_from lexed_by numbered items
cut_nothing origin state json = refl

some_broken : (l : List ℕ) → is_some (utf8_error_len l) ≡ true → 0 < length l
unfolding utf8_error_len
some_broken [] h = absurd (let e : false ≡ true = h in cc)
some_broken (x ∷ l) h = omega arith

-- ---- bytes that are cut into parts

joined : (done v more : List ℕ) (k : ℕ) → (done ++ take k v) ++ (drop k v ++ more) ≡ done ++ (v ++ more)
joined done v more k = append_assoc done (take k v) (drop k v ++ more) ∙ ap (λ l. done ++ l) (sym (append_assoc (take k v) (drop k v) more) ∙ ap (λ l. l ++ more) (take-append-drop k v))

joined_all : (done v : List ℕ) (k : ℕ) → (done ++ take k v) ++ drop k v ≡ done ++ v
joined_all done v k = append_assoc done (take k v) (drop k v) ∙ ap (λ l. done ++ l) (take-append-drop k v)

-- ---- texts of which the first bytes were told apart

cancel : (a b c : List ℕ) → a ++ b ≡ a ++ c → b ≡ c
cancel [] b c is = is
cancel (x ∷ a) b c is = cancel a b c cc

unfronted : (sent : List ℕ) (l : List TextResult) (json json' : List ℕ) (f : JsonFault) → fronted sent l ≡ Err (json, f) ∷ [] → json ≡ sent ++ json' → l ≡ Err (json', f) ∷ []
unfronted sent [] json json' f is same = absurd cc
unfronted sent (Ok x ∷ l) json json' f is same = absurd cc
unfronted sent (Err (x, g) ∷ l) json json' f is same =
    let d : l ≡ [] = cc in
    let p : (sent ++ x, g) ≡ (json, f) = cc in
    let a : sent ++ x ≡ json = ap (λ (q : List ℕ × JsonFault). q.0) p in
    let b : g ≡ f = ap (λ (q : List ℕ × JsonFault). q.1) p in
    let e : x ≡ json' = cancel sent x json' (a ∙ same) in
    λ i. Err (e i, b i) ∷ d i

left_of_nil : (sent : List ℕ) (texts : List (List ℕ)) → sent ≡ [] → left_of sent texts ≡ []
left_of_nil sent [] h = h
left_of_nil sent (x ∷ texts) h = refl

-- the bytes that were sent are those of a text that doesn't end as if it were none
ends_taken : (new : List (List ℕ)) (a b : List ℕ) (F G : List ℕ → List TextResult) → ((more : List ℕ) → F more ≡ new before fronted b (G more)) → (a ≡ []) ⊎ ((more : List ℕ) → F more ≢ []) → (b ≡ []) ⊎ ((more : List ℕ) → G more ≢ []) → (left_of a new ++ b ≡ []) ⊎ ((more : List ℕ) → G more ≢ [])
ends_taken [] a b F G goes h (inr q) = inr q
ends_taken (x ∷ new) a b F G goes h (inr q) = inr q
ends_taken [] a b F G goes (inl p) (inl q) = inl (ap (λ l. l ++ b) p ∙ q)
ends_taken [] a b F G goes (inr p) (inl q) = inr (λ more is. p more (goes more ∙ ap (fronted b) is))
ends_taken (x ∷ new) a b F G goes h (inl q) = inl q

left_done : (new : List (List ℕ)) (a : List ℕ) (l : List TextResult) → l ≡ map (λ text. Ok text) new → (a ≡ []) ⊎ (l ≢ []) → left_of a new ≡ []
left_done [] a l is (inl p) = p
left_done [] a l is (inr p) = absurd (p is)
left_done (x ∷ new) a l is h = refl

-- what is written at last
last_printed : (prints : Prints) (u : Texts) (lines : List ℕ) (texts : List (List ℕ)) (left : List ℕ) → ((json : List ℕ) → lines ++ (ended_of u ++ json) ≡ lines_of texts ++ (left ++ json)) → (prints ≡ how.Texts → left ≡ []) → lines ++ last_lines prints u ≡ printed prints texts (left ++ (begun_of u).1)
last_printed how.Texts u lines texts left h plain = ap (λ l. lines ++ l) (sym (append-nil (ended_of u))) ∙ h [] ∙ ap (λ l. lines_of texts ++ (l ++ [])) (plain refl) ∙ append-nil (lines_of texts)
last_printed how.Tokens u lines texts left h plain = h (begun_of u).1

sent_printed : (prints : Prints) (texts : List (List ℕ)) (sent : List ℕ) → (prints ≡ how.Texts → sent ≡ []) → lines_of texts ++ sent ≡ printed prints texts sent
sent_printed how.Texts texts sent plain = ap (λ l. lines_of texts ++ l) (plain refl) ∙ append-nil (lines_of texts)
sent_printed how.Tokens texts sent plain = refl

-- ---- what was read, and what was written

-- Bytes were read: those that were taken, `front`, which are UTF-8, and `rest`. Of those that were taken texts ended, and bytes `sent` of the text that is begun were written after them: where tokens are printed, all that an array or an object has.
pub record SoFar (prints : Prints) (unread unread' written written' : Option (List ℕ)) (t : Texts) (front rest : List ℕ) : Type 0 where
  pub done : List ℕ
  pub taken : Consumes unread unread' (done ++ (front ++ rest))
  pub text : IsUtf8 (done ++ front)
  pub texts : List (List ℕ)
  pub sent : List ℕ
  pub goes : (more : List ℕ) (ending : Ending) → all_texts ending (done ++ (front ++ more)) ≡ texts before fronted sent (texts_after ending t.place (begun_of t) (front ++ more))
  pub most : texts_after cut t.place (begun_of t) front ≡ Err ((begun_of t).1, not_text_at (place_after_bytes t.place front)) ∷ []
  pub ends : (sent ≡ []) ⊎ ((more : List ℕ) → texts_after complete t.place (begun_of t) (front ++ more) ≢ [])
  pub plain : prints ≡ how.Texts → sent ≡ []
  pub wrote : Appends written written' (lines_of texts ++ sent)
  pub none : ended_of t ≡ []
  pub whole : t.whole ≤ length t.lines.items
  pub counts : CountsUpTo t (length done)
  pub number : t.count ≡ length texts
  pub left : IsLeft t.seen front
  pub soon : prints ≡ how.Tokens → 0 < length (begun_of t).0.0 → (begun_of t).1 ≡ []

-- no further byte is UTF-8, and none is known to be no UTF-8
pub record Read (prints : Prints) (unread unread' written written' : Option (List ℕ)) (t : Texts) (front rest : List ℕ) (read : ℕ) : Type 0 where
  pub so_far : SoFar prints unread unread' written written' t front rest
  pub valid : utf8_valid_len (so_far.done ++ (front ++ rest)) ≡ length (so_far.done ++ front)
  pub long : length (so_far.done ++ (front ++ rest)) ≡ read
  pub unbroken : is_some (utf8_error_len rest) ≡ false

none_broken : is_some (utf8_error_len []) ≡ false
unfolding utf8_error_len
none_broken = refl

pub nothing_read : (prints : Prints) (unread written : Option (List ℕ)) (t : Texts) → begun_of t ≡ (begin, []) → ended_of t ≡ [] → CountsUpTo t 0 → t.place ≡ (1, 1) → t.whole ≤ length t.lines.items → t.seen ≡ None → Read prints unread unread written written t [] [] 0
nothing_read prints unread written t begun none counts place whole seen =
    let at_begin = λ (ending : Ending) (bytes : List ℕ). let e : texts_after ending (1, 1) (begin, []) bytes ≡ texts_after ending t.place (begun_of t) bytes = ap (λ (p : ℕ × ℕ). texts_after ending p (begin, []) bytes) (sym place) ∙ ap (λ b. texts_after ending t.place b bytes) (sym begun) in e in
    let few = counts.0 in
    record {
      so_far = record {
        done = [];
        taken = Consumes-nil unread;
        text = IsUtf8-nil;
        texts = [];
        sent = [];
        goes = λ more ending. at_begin ending more ∙ sym (fronted_nil (texts_after ending t.place (begun_of t) more));
        most = cut_nothing t.place (begun_of t).0 (begun_of t).1;
        ends = inl refl;
        plain = λ h. refl;
        wrote = Appends-nil written;
        none = none;
        whole = whole;
        counts = counts;
        number = omega (arith, few);
        left = subst (λ o. IsLeft o []) (sym seen) refl;
        soon = λ tokens open'. ap (λ b. b.1) begun;
      };
      valid = utf8_valid_len-IsUtf8 [] IsUtf8-nil;
      long = refl;
      unbroken = none_broken;
    }

module _ {prints : Prints} {unread unread' written written' : Option (List ℕ)} {t : Texts} {front rest : List ℕ} (s : SoFar prints unread unread' written written' t front rest) where
  -- more bytes were read
  pub so_far_read : (unread'' : Option (List ℕ)) (more : List ℕ) → Consumes unread' unread'' more → (x : SoFar prints unread unread'' written written' t front (rest ++ more)) × (x.done ≡ s.done)
  so_far_read unread'' more more_taken = (
    record {
      done = s.done;
      taken = subst (Consumes unread unread'') (append_assoc s.done (front ++ rest) more ∙ ap (λ l. s.done ++ l) (append_assoc front rest more)) (Consumes-trans unread unread' unread'' (s.done ++ (front ++ rest)) more s.taken more_taken);
      text = s.text;
      texts = s.texts;
      sent = s.sent;
      goes = s.goes;
      most = s.most;
      ends = s.ends;
      plain = s.plain;
      wrote = s.wrote;
      none = s.none;
      whole = s.whole;
      counts = s.counts;
      number = s.number;
      left = s.left;
      soon = s.soon;
    },
    refl,
  )

  -- whatever texts the first bytes go on with
  goes_on : (v : List ℕ) (ending : Ending) (new : List (List ℕ)) (others : List TextResult) → texts_after ending t.place (begun_of t) (front ++ v) ≡ new before others → all_texts ending (s.done ++ (front ++ v)) ≡ (s.texts ++ fronted_texts s.sent new) before fronted (left_of s.sent new) others
  goes_on v ending new others is =
      s.goes v ending ∙ ap (λ l. s.texts before fronted s.sent l) is ∙ ap (λ l. s.texts before l) (fronted_before s.sent new others) ∙ before_twice s.texts (fronted_texts s.sent new) (fronted (left_of s.sent new) others)

  -- the lines of the texts that ended further
  lines_with : (new : List (List ℕ)) (json : List ℕ) → (lines_of s.texts ++ s.sent) ++ (lines_of new ++ json) ≡ lines_of (s.texts ++ fronted_texts s.sent new) ++ (left_of s.sent new ++ json)
  lines_with new json =
      append_assoc (lines_of s.texts) s.sent (lines_of new ++ json)
      ∙ ap (λ l. lines_of s.texts ++ l) (sym (append_assoc s.sent (lines_of new) json) ∙ ap (λ l. l ++ json) (sym (fronted_lines s.sent new)) ∙ append_assoc (lines_of (fronted_texts s.sent new)) (left_of s.sent new) json)
      ∙ sym (append_assoc (lines_of s.texts) (lines_of (fronted_texts s.sent new)) (left_of s.sent new ++ json))
      ∙ ap (λ l. l ++ (left_of s.sent new ++ json)) (sym (flat_map-append _ s.texts (fronted_texts s.sent new)))

  -- the number of the text after them
  number_with : (u : Texts) (new : List (List ℕ)) → EndTexts t new u → u.count ≡ length (s.texts ++ fronted_texts s.sent new)
  number_with u new h = let a = h.count in let b = s.number in let c = length-append s.texts (fronted_texts s.sent new) in let d = length_fronted s.sent new in omega (arith, a, b, c, d)

  -- the lines of what ended
  ended_with : (u : Texts) (new : List (List ℕ)) → EndTexts t new u → ended_of u ≡ lines_of new
  ended_with u new h = h.lines ∙ ap (λ l. l ++ lines_of new) s.none

  -- ---- what is taken and sent

  module _ {u v : Texts} {written'' : Option (List ℕ)} (sends : Sends prints written' written'' u v) where
    sent_on : (ending : Ending) (l : List ℕ) → texts_after ending u.place (begun_of u) l ≡ fronted sends.sent (texts_after ending v.place (begun_of v) l)
    sent_on ending l =
        ap (λ (j : List ℕ). texts_after ending u.place ((begun_of u).0, j) l) sends.json
        ∙ fronted_after u.place l sends.sent ending (begun_of u).0 (begun_of v).1
        ∙ ap (λ (b : State). fronted sends.sent (texts_after ending u.place (b, (begun_of v).1) l)) (sym sends.state)
        ∙ ap (λ (p : ℕ × ℕ). fronted sends.sent (texts_after ending p (begun_of v) l)) (sym sends.place)

    sent_within : (l : List ℕ) → (sends.sent ≡ []) ⊎ ((more : List ℕ) → texts_after complete v.place (begun_of v) (l ++ more) ≢ [])
    sent_within l = ⊎_elim (λ (none : sends.sent ≡ []). inl none) (λ (open' : 0 < length (begun_of u).0.0). inr (λ more. some_after v.place (l ++ more) (begun_of v).0 (begun_of v).1 (inl (subst (λ (b : State). 0 < length b.0) (sym sends.state) open')))) sends.within

    pub so_far_taken : (n taken : ℕ) → n ≡ utf8_valid_len rest → Takes t (front ++ take n rest) taken u → (x : SoFar prints unread unread' written written'' v (drop taken (front ++ take n rest)) (drop n rest)) × (x.done ≡ s.done ++ take taken (front ++ take n rest))
    so_far_taken n taken is h =
        let part = take n rest in
        let v' = front ++ part in
        let left = left_of s.sent h.texts in
        let goes = λ (more : List ℕ) (ending : Ending). let e : texts_after ending t.place (begun_of t) (front ++ (part ++ more)) ≡ h.texts before fronted sends.sent (texts_after ending v.place (begun_of v) (drop taken v' ++ more)) = ap (λ l. texts_after ending t.place (begun_of t) l) (sym (append_assoc front part more)) ∙ h.goes more ending ∙ ap (λ l. h.texts before l) (sent_on ending (drop taken v' ++ more)) in e in
        let counts = h.counts (length s.done) s.counts in
        let within = h.within in
        let long : length (s.done ++ take taken v') ≡ length s.done + taken = length-append s.done (take taken v') ∙ (let k = length-take taken v' in omega (arith, k, within)) in
        let count = sends.count in
        let line : v.place.0 ≡ u.place.0 = ap (λ (p : ℕ × ℕ). p.0) sends.place in
        let column : v.place.1 ≡ u.place.1 = ap (λ (p : ℕ × ℕ). p.1) sends.place in
        let a = counts.0 in
        let b = counts.1 in
        let d = counts.2 in
        let number = number_with u h.texts h.ended in (
          record {
            done = s.done ++ take taken v';
            taken = subst (Consumes unread unread') (ap (λ l. s.done ++ (front ++ l)) (sym (take-append-drop n rest)) ∙ ap (λ l. s.done ++ l) (sym (append_assoc front part (drop n rest))) ∙ sym (joined s.done v' (drop n rest) taken)) s.taken;
            text = subst IsUtf8 (append_assoc s.done front part ∙ sym (joined_all s.done v' taken)) (IsUtf8-append (s.done ++ front) part s.text (subst (λ (k : ℕ). IsUtf8 (take k rest)) (sym is) (valid_front rest)));
            texts = s.texts ++ fronted_texts s.sent h.texts;
            sent = left ++ sends.sent;
            goes = λ more ending.
                ap (λ l. all_texts ending l) (joined s.done v' more taken ∙ ap (λ l. s.done ++ l) (append_assoc front part more))
                ∙ goes_on (part ++ more) ending h.texts _ (goes more ending)
                ∙ ap (λ l. (s.texts ++ fronted_texts s.sent h.texts) before l) (fronted_twice left sends.sent (texts_after ending v.place (begun_of v) (drop taken v' ++ more)));
            most = unfronted sends.sent (texts_after cut v.place (begun_of v) (drop taken v')) (begun_of u).1 (begun_of v).1 _ (sym (sent_on cut (drop taken v')) ∙ h.most ∙ ap (λ (p : ℕ × ℕ). Err ((begun_of u).1, not_text_at (place_after_bytes p (drop taken v'))) ∷ []) (sym sends.place)) sends.json;
            ends = ends_taken h.texts s.sent sends.sent (λ more. texts_after complete t.place (begun_of t) (front ++ (part ++ more))) (λ more. texts_after complete v.place (begun_of v) (drop taken v' ++ more)) (λ more. goes more complete) (⊎_elim (λ (none : s.sent ≡ []). inl none) (λ (some : (more : List ℕ) → texts_after complete t.place (begun_of t) (front ++ more) ≢ []). inr (λ more. some (part ++ more))) s.ends) (sent_within (drop taken v'));
            plain = λ texts. ap (λ l. l ++ sends.sent) (left_of_nil s.sent h.texts (s.plain texts)) ∙ sends.plain texts;
            wrote = subst (Appends written written'') (ap (λ l. (lines_of s.texts ++ s.sent) ++ (l ++ sends.sent)) (ended_with u h.texts h.ended) ∙ lines_with h.texts sends.sent) (Appends-trans written written' written'' (lines_of s.texts ++ s.sent) (ended_of u ++ sends.sent) s.wrote sends.wrote);
            none = sends.none;
            whole = sends.whole;
            counts = (omega (arith, a, count, long), omega (arith, b, line, long), omega (arith, d, column, long));
            number = count ∙ number;
            left = subst (λ o. IsLeft o (drop taken v')) (sym sends.seen) h.left;
            soon = λ tokens open'. sends.all tokens (subst (λ (b : State). 0 < length b.0) sends.state open');
          },
          refl,
        )

  -- ---- how it ends

  -- what a fault of the texts comes to, after the last lines were written
  abbrev pub ToldAs : Option (List ℕ) → Texts → JsonFault → Type 0
  ToldAs written'' u f = (texts : List (List ℕ)) × (json : List ℕ) × HasTexts unread unread' (texts before Err (json, f) ∷ []) × (u.count + 1 ≡ length texts + 1) × Appends written written'' (printed prints texts json)

  told_as : (u : Texts) (new : List (List ℕ)) (f : JsonFault) (written'' : Option (List ℕ)) → EndTexts t new u → HasTexts unread unread' ((s.texts ++ fronted_texts s.sent new) before Err (left_of s.sent new ++ (begun_of u).1, f) ∷ []) → Appends written' written'' (last_lines prints u) → ToldAs written'' u f
  told_as u new f written'' h has wrote =
      let left = left_of s.sent new in
      let number = number_with u new h in
      let lines = last_printed prints u (lines_of s.texts ++ s.sent) (s.texts ++ fronted_texts s.sent new) left (λ json. ap (λ l. (lines_of s.texts ++ s.sent) ++ (l ++ json)) (ended_with u new h) ∙ lines_with new json) (λ texts. left_of_nil s.sent new (s.plain texts)) in (
        s.texts ++ fronted_texts s.sent new,
        left ++ (begun_of u).1,
        has,
        omega (arith, number),
        subst (Appends written written'') lines (Appends-trans written written' written'' (lines_of s.texts ++ s.sent) (last_lines prints u) s.wrote wrote),
      )

  module _ (n : ℕ) (is : n ≡ utf8_valid_len rest) where
    abbrev Part : List ℕ
    Part = take n rest

    valid_part : IsUtf8 (s.done ++ (front ++ Part))
    valid_part = subst IsUtf8 (append_assoc s.done front Part) (IsUtf8-append (s.done ++ front) Part s.text (subst (λ (k : ℕ). IsUtf8 (take k rest)) (sym is) (valid_front rest)))

    parted : (more : List ℕ) → (s.done ++ (front ++ rest)) ++ more ≡ (s.done ++ (front ++ Part)) ++ (drop n rest ++ more)
    parted more =
        ap (λ l. (s.done ++ (front ++ l)) ++ more) (sym (take-append-drop n rest))
        ∙ ap (λ l. l ++ more) (ap (λ l. s.done ++ l) (sym (append_assoc front Part (drop n rest))) ∙ sym (append_assoc s.done (front ++ Part) (drop n rest)))
        ∙ append_assoc (s.done ++ (front ++ Part)) (drop n rest) more

    pub told_of_fault : (u : Texts) (f : JsonFault) (written'' : Option (List ℕ)) → FindsFault t (front ++ Part) f u → Appends written' written'' (last_lines prints u) → ToldAs written'' u f
    told_of_fault u f written'' h wrote = told_as u h.texts f written'' h.ended (record {
      bytes = s.done ++ (front ++ rest);
      taken = s.taken;
      are = inl (λ more.
          ap texts_of (parted more)
          ∙ texts_of_starts (s.done ++ (front ++ Part)) (drop n rest ++ more) _ valid_part
          (λ m ending.
          ap (λ l. all_texts ending l) (append_assoc s.done (front ++ Part) m ∙ ap (λ l. s.done ++ l) (append_assoc front Part m))
          ∙ goes_on (Part ++ m) ending h.texts _ (ap (λ l. texts_after ending t.place (begun_of t) l) (sym (append_assoc front Part m)) ∙ h.fails m ending)));
    }) wrote

    pub told_of_broken : (u : Texts) (f : JsonFault) (written'' : Option (List ℕ)) → FindsBroken t (front ++ Part) f u → is_some (utf8_error_len (drop n rest)) ≡ true → Appends written' written'' (last_lines prints u) → ToldAs written'' u f
    told_of_broken u f written'' h broken wrote =
        let some = some_broken (drop n rest) broken in
        let few = utf8_valid_len_le rest in
        told_as u h.texts f written'' h.ended (record {
          bytes = s.done ++ (front ++ rest);
          taken = s.taken;
          are = inl (λ more.
              let stays = valid_broken rest more (subst (λ (k : ℕ). is_some (utf8_error_len (drop k rest)) ≡ true) is broken) in
              let valid = valid_after (s.done ++ front) (rest ++ more) s.text in
              let same : (s.done ++ front) ++ (rest ++ more) ≡ (s.done ++ (front ++ Part)) ++ (drop n rest ++ more) = sym (append_assoc (s.done ++ front) rest more) ∙ ap (λ l. l ++ more) (append_assoc s.done front rest) ∙ parted more in
              let long : length (s.done ++ (front ++ Part)) ≡ length (s.done ++ front) + n = ap length (sym (append_assoc s.done front Part)) ∙ length-append (s.done ++ front) Part ∙ (let k = length-take n rest in omega (arith, k, few, is)) in
              ap texts_of (parted more)
              ∙ texts_of_front (s.done ++ (front ++ Part)) (drop n rest ++ more) (ap utf8_valid_len (sym same) ∙ valid ∙ omega (arith, stays, is, long)) (omega (arith, some, length-append (drop n rest) more))
              ∙ goes_on Part cut h.texts _ h.breaks);
        }) wrote

  module _ (valid : utf8_valid_len (s.done ++ (front ++ rest)) ≡ length (s.done ++ front)) where
    whole_of_short : length (front ++ rest) ≤ length front → utf8_valid_len (s.done ++ (front ++ rest)) ≡ length (s.done ++ (front ++ rest))
    whole_of_short short = valid ∙ (let a = length-append s.done front in let b = length-append s.done (front ++ rest) in let c = length-append front rest in omega (arith, a, b, c, short))

    pub told_of_last : (u : Texts) (f : JsonFault) (written'' : Option (List ℕ)) → IsAtEnd unread' → length (front ++ rest) ≤ length front → FindsLastFault t (front ++ rest) f u → Appends written' written'' (last_lines prints u) → ToldAs written'' u f
    told_of_last u f written'' end short h wrote = told_as u h.texts f written'' h.ended (record {
      bytes = s.done ++ (front ++ rest);
      taken = s.taken;
      are = inr (end, texts_of_whole (s.done ++ (front ++ rest)) (whole_of_short short) ∙ goes_on rest complete h.texts _ h.fails);
    }) wrote

    utf8_valid_up_to_front : utf8_valid_len ((s.done ++ front) ++ rest) ≡ length (s.done ++ front)
    utf8_valid_up_to_front = ap utf8_valid_len (append_assoc s.done front rest) ∙ valid

    all_cut : all_texts cut (s.done ++ front) ≡ s.texts before Err (s.sent ++ (begun_of t).1, not_text_at (place_after_bytes t.place front)) ∷ []
    all_cut =
        ap (λ l. all_texts cut (s.done ++ l)) (sym (append-nil front))
        ∙ s.goes [] cut
        ∙ ap (λ l. s.texts before fronted s.sent (texts_after cut t.place (begun_of t) l)) (append-nil front)
        ∙ ap (λ l. s.texts before fronted s.sent l) s.most

    ends_none : EndTexts t [] t
    ends_none = record { lines = sym (append-nil (ended_of t)); count = omega arith; whole = s.whole }

    pub told_of_cut : (f : JsonFault) (written'' : Option (List ℕ)) → IsAtEnd unread' → length front < length (front ++ rest) → f ≡ not_text_at (place_after_bytes t.place front) → Appends written' written'' (last_lines prints t) → ToldAs written'' t f
    told_of_cut f written'' end some is wrote = told_as t [] f written'' ends_none (record {
      bytes = s.done ++ (front ++ rest);
      taken = s.taken;
      are = inr (
        end,
        ap texts_of (sym (append_assoc s.done front rest))
            ∙ texts_of_front (s.done ++ front) rest utf8_valid_up_to_front (let c = length-append front rest in omega (arith, c, some))
            ∙ all_cut
            ∙ ap (λ l. l before Err (s.sent ++ (begun_of t).1, not_text_at (place_after_bytes t.place front)) ∷ []) (sym (append-nil s.texts))
            ∙ ap (λ x. (s.texts ++ []) before Err (s.sent ++ (begun_of t).1, x) ∷ []) (sym is),
      );
    }) wrote

    unbroken_all : is_some (utf8_error_len rest) ≡ false → IsUnbroken (s.done ++ (front ++ rest))
    unbroken_all unbroken =
        let bytes = s.done ++ (front ++ rest) in
        let dropped : drop (utf8_valid_len bytes) bytes ≡ rest = ap (λ (k : ℕ). drop k bytes) valid ∙ ap (drop (length (s.done ++ front))) (sym (append_assoc s.done front rest)) ∙ drop-append_seam (s.done ++ front) rest in
        subst (λ l. is_some (utf8_error_len l) ≡ false) (sym dropped) unbroken

    -- what was read when a read failed, or too many bytes came
    pub writes_read : is_some (utf8_error_len rest) ≡ false → (written'' : Option (List ℕ)) → Appends written' written'' (last_lines prints t) → WritesRead prints unread unread' written written''
    writes_read unbroken written'' wrote = record {
      bytes = s.done ++ (front ++ rest);
      taken = s.taken;
      texts = s.texts;
      json = s.sent ++ (begun_of t).1;
      place = place_after_bytes t.place front;
      are = ap texts_so_far (sym (append_assoc s.done front rest)) ∙ so_far_of_front (s.done ++ front) rest utf8_valid_up_to_front ∙ all_cut;
      unbroken = unbroken_all unbroken;
      wrote = subst (Appends written written'') (last_printed prints t (lines_of s.texts ++ s.sent) s.texts s.sent (λ json. ap (λ l. (lines_of s.texts ++ s.sent) ++ (l ++ json)) s.none ∙ append_assoc (lines_of s.texts) s.sent json) s.plain) (Appends-trans written written' written'' (lines_of s.texts ++ s.sent) (last_lines prints t) s.wrote wrote);
    }

    -- what was written when no memory was there for more
    pub writes_some : is_some (utf8_error_len rest) ≡ false → (unread'' written'' : Option (List ℕ)) (more : List ℕ) → Consumes unread' unread'' more → Appends written' written'' [] → WritesSome prints unread unread'' written written''
    writes_some unbroken unread'' written'' more more_taken wrote = record {
      bytes = s.done ++ (front ++ rest);
      more = more;
      taken = Consumes-trans unread unread' unread'' (s.done ++ (front ++ rest)) more s.taken more_taken;
      texts = s.texts;
      sent = s.sent;
      unsent = (begun_of t).1;
      place = place_after_bytes t.place front;
      are = ap texts_so_far (sym (append_assoc s.done front rest)) ∙ so_far_of_front (s.done ++ front) rest utf8_valid_up_to_front ∙ all_cut;
      unbroken = unbroken_all unbroken;
      wrote = subst (Appends written written'') (append-nil (lines_of s.texts ++ s.sent) ∙ sent_printed prints s.texts s.sent s.plain) (Appends-trans written written' written'' (lines_of s.texts ++ s.sent) [] s.wrote wrote);
    }

    -- all was read, and the texts were written
    pub all_printed : (u : Texts) (written'' : Option (List ℕ)) → IsAtEnd unread' → length (front ++ rest) ≤ length front → TakesAll t (front ++ rest) u → Appends written' written'' (ended_of u) → (texts : List (List ℕ)) × ReadsAll unread unread' (λ bytes. texts_of bytes ≡ map (λ text. Ok text) texts) × Appends written written'' (lines_of texts)
    all_printed u written'' end short h wrote =
        let new = h.texts in
        let texts = s.texts ++ fronted_texts s.sent new in
        let left = left_done new s.sent (texts_after complete t.place (begun_of t) (front ++ rest)) h.all (⊎_elim (λ (none : s.sent ≡ []). inl none) (λ (some : (more : List ℕ) → texts_after complete t.place (begun_of t) (front ++ more) ≢ []). inr (some rest)) s.ends) in
        let all : texts_of (s.done ++ (front ++ rest)) ≡ map (λ text. Ok text) texts = texts_of_whole (s.done ++ (front ++ rest)) (whole_of_short short) ∙ goes_on rest complete new [] (h.all ∙ sym (append-nil _)) ∙ append-nil _ in
        let lines : (lines_of s.texts ++ s.sent) ++ ended_of u ≡ lines_of texts = ap (λ l. (lines_of s.texts ++ s.sent) ++ l) (ended_with u new h.ended ∙ sym (append-nil (lines_of new))) ∙ lines_with new [] ∙ ap (λ l. lines_of texts ++ (l ++ [])) left ∙ append-nil (lines_of texts) in
        (texts, (s.done ++ (front ++ rest), s.taken, end, all), subst (Appends written written'') lines (Appends-trans written written' written'' (lines_of s.texts ++ s.sent) (ended_of u) s.wrote wrote))

-- what a failed read for want of memory leaves
pub some_of_read : {prints : Prints} {unread unread' written written' : Option (List ℕ)} → WritesRead prints unread unread' written written' → WritesSome prints unread unread' written written'
some_of_read {unread = unread} {unread' = unread'} h = record {
  bytes = h.bytes;
  more = [];
  taken = subst (Consumes unread unread') (sym (append-nil h.bytes)) h.taken;
  texts = h.texts;
  sent = h.json;
  unsent = [];
  place = h.place;
  are = h.are ∙ ap (λ l. h.texts before Err (l, not_text_at h.place) ∷ []) (sym (append-nil h.json));
  unbroken = h.unbroken;
  wrote = h.wrote;
}
