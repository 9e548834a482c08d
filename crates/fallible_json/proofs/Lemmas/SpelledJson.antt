-- A JSON text by the rules of RFC 8259, and what is left of it without its blanks.
use Rattle.std.specs.Prelude.{◌≡◌, ◌<◌, ℕ, zero, suc, ◌+◌, List, [], ◌∷◌, ◌++◌, length}
use Rattle.std.specs.Str.{IsUtf8}
use Rattle.std.specs.declared.convert.Infallible.{Infallible}
use Rattle.std.proofs.Common.{arith, refl, ap, sym, subst, inl, inr, ◌∙◌, append_assoc, append-nil, get_or}
use Rattle.std.proofs.lemmas.List.{length-append}
use Rattle.std.proofs.lemmas.Str.{IsCharBoundary-after_ascii, IsCharBoundary-before_ascii, IsUtf8-append, IsUtf8-drop, IsUtf8-take}
use Rattle.std.proofs.Math.Seq.{drop-append-add, get_or-append_seam, take-append_seam}
use Rattle.fallible_iterator.specs.Lists.{items, numbered}
use Rattle.fallible_json.specs.Grammar.{IsJsonText, begin}
use Rattle.fallible_json.specs.Json.{IsJson}
use Rattle.fallible_json.specs.Lexing.{Lexeme, lexed}
use Rattle.fallible_json.specs.Minifying.{bytes_of, bytes_of_all}
use Rattle.fallible_json.specs.Spelled.{Spell, SpellEach, SpellLongest, tokens_with_bytes}
use Rattle.fallible_json.specs.Spelling.{IsBlank, Times}
use Rattle.fallible_json.specs.Trees.{Tree, tokens_of, written}
use Rattle.fallible_json.proofs.Lemmas.Json.{is_json_of_tree, tree_of_json}
use Rattle.fallible_json.proofs.Lemmas.Lexeme.{alive_of_text}
use Rattle.fallible_json.proofs.Lemmas.Parted.{blank_is_one_byte, lexed_of_spell, spell_of_lexed}
use Rattle.fallible_json.proofs.Lemmas.Printed.{Spells, bytes_of_token, each_spelled, joined, joined_spelled, longest_of_text, next_place, placed, placed_spells, spelled_placed, spells_of_longest, splits_at, tokens_placed, tokens_spelled}
use Rattle.fallible_json.proofs.Lemmas.Parted.{reads_token}
use Rattle.fallible_json.proofs.Lemmas.Tree.{is_text_written}

-- ---- a text by the rules

longest_of_tree : (bytes : List ℕ) (tree : Tree) (lexemes : List Lexeme) → Spell bytes lexemes → tokens_of lexemes ≡ written tree → SpellLongest bytes lexemes
longest_of_tree bytes tree lexemes spells is =
    let state = alive_of_text (tokens_of lexemes) (subst IsJsonText (sym is) (is_text_written tree)) in
    longest_of_text lexemes 0 bytes begin state.0 spells state.1

pub is_json_of_spelled : (bytes : List ℕ) (tree : Tree) (lexemes : List Lexeme) → IsUtf8 bytes → Spell bytes lexemes → tokens_of lexemes ≡ written tree → IsJson bytes (bytes_of_all bytes lexemes)
is_json_of_spelled bytes tree lexemes utf8 spells is = is_json_of_tree bytes tree lexemes utf8 (lexed_of_spell lexemes 0 bytes (longest_of_tree bytes tree lexemes spells is)) is

pub spelled_of_json : (bytes json : List ℕ) → IsJson bytes json → IsUtf8 bytes × (tree : Tree) × (lexemes : List Lexeme) × Spell bytes lexemes × (tokens_of lexemes ≡ written tree) × (json ≡ bytes_of_all bytes lexemes)
spelled_of_json bytes json is =
    let k = tree_of_json bytes json is in
    (k.0, k.1, k.2, spells_of_longest k.2 0 bytes (spell_of_lexed k.2 0 bytes k.3), k.4, k.5)

-- ---- UTF-8 without some bytes of ASCII

without_ascii : (front rest : List ℕ) (byte : ℕ) → byte < 128 → IsUtf8 (front ++ byte ∷ rest) → IsUtf8 (front ++ rest)
without_ascii front rest byte ascii utf8 =
    let text = front ++ byte ∷ rest in
    let at : get_or text (length front) 0 ≡ byte = get_or-append_seam front byte rest 0 in
    let within : length front < length text = omega (arith, length-append front (byte ∷ rest)) in
    let low : get_or text (length front) 0 < 128 = omega (arith, at, ascii) in
    let first : IsUtf8 front = subst IsUtf8 (take-append_seam front (byte ∷ rest)) (IsUtf8-take text (length front) utf8 (IsCharBoundary-before_ascii text (length front) within low)) in
    let last : IsUtf8 rest = subst IsUtf8 (drop-append-add front (byte ∷ rest) 1) (IsUtf8-drop text (length front + 1) utf8 (IsCharBoundary-after_ascii text (length front) utf8 within low)) in
    IsUtf8-append front rest first last

blank_is_ascii : (byte : ℕ) (text : List ℕ) → IsBlank text → text ≡ byte ∷ [] → byte < 128
blank_is_ascii byte text (inl is) one = let same : byte ≡ 32 = cc in omega (arith, same)
blank_is_ascii byte text (inr (inl is)) one = let same : byte ≡ 9 = cc in omega (arith, same)
blank_is_ascii byte text (inr (inr (inl is))) one = let same : byte ≡ 10 = cc in omega (arith, same)
blank_is_ascii byte text (inr (inr (inr is))) one = let same : byte ≡ 13 = cc in omega (arith, same)

without_blanks : (n : ℕ) (front blanks rest : List ℕ) → Times n IsBlank blanks → IsUtf8 (front ++ (blanks ++ rest)) → IsUtf8 (front ++ rest)
unfolding Times
without_blanks zero front blanks rest none utf8 = subst (λ z. IsUtf8 (front ++ (z ++ rest))) none utf8
without_blanks (suc n) front blanks rest (one, others, is, blank, more) utf8 =
    let k = blank_is_one_byte one blank in
    let whole : blanks ≡ k.0 ∷ others = is ∙ ap (λ z. z ++ others) k.1 in
    without_blanks n front others rest more (without_ascii front (others ++ rest) k.0 (blank_is_ascii k.0 one blank k.1) (subst (λ z. IsUtf8 (front ++ (z ++ rest))) whole utf8))

-- what is joined of the tokens is UTF-8 if all bytes are
utf8_joined : (lexemes : List Lexeme) (place : ℕ) (front before bytes : List ℕ) → length before ≡ place → Spells place bytes lexemes → IsUtf8 (front ++ bytes) → IsUtf8 (front ++ joined (tokens_with_bytes (before ++ bytes) lexemes))
unfolding SpellEach
utf8_joined [] place front before bytes here (n, each) utf8 = without_blanks n front bytes [] each (subst (λ z. IsUtf8 (front ++ z)) (sym (append-nil bytes)) utf8)
utf8_joined ((first, last, token) ∷ lexemes) place front before bytes here (blanks, spelling, rest, is, each, at_first, is_spelled, at_last, any, others) utf8 =
    let lost : IsUtf8 (front ++ (spelling ++ rest)) = without_blanks each.0 front blanks (spelling ++ rest) each.1 (subst (λ z. IsUtf8 (front ++ z)) is utf8) in
    let more = utf8_joined lexemes (last + 1) (front ++ spelling) ((before ++ blanks) ++ spelling) rest (next_place place first last before blanks spelling here at_first at_last) others (subst IsUtf8 (sym (append_assoc front spelling rest)) lost) in
    let same : bytes_of (before ++ bytes) first last ≡ spelling = bytes_of_token place first last token before bytes blanks spelling rest here is at_first at_last (reads_token token spelling is_spelled) in
    subst (λ z. IsUtf8 (front ++ (z ++ joined (tokens_with_bytes (before ++ bytes) lexemes)))) (sym same) (subst (λ z. IsUtf8 (front ++ (spelling ++ joined (tokens_with_bytes z lexemes)))) (sym (splits_at before bytes blanks spelling rest is).1) (subst IsUtf8 (append_assoc front spelling (joined (tokens_with_bytes (((before ++ blanks) ++ spelling) ++ rest) lexemes))) more))

-- ---- the text without blanks

-- the same tokens at their places in what is joined of them
record Printed (bytes json : List ℕ) : Type 0 where
  lexemes : List Lexeme
  printed : List Lexeme
  tree : Tree
  read : lexed {E = Infallible} (numbered 0 (items bytes)) ≡ items lexemes
  utf8 : IsUtf8 json
  spells : Spell json printed
  is : tokens_of printed ≡ written tree
  whole : bytes_of_all json printed ≡ json
  same : tokens_with_bytes json printed ≡ tokens_with_bytes bytes lexemes

printed_of : (bytes json : List ℕ) → IsJson bytes json → Printed bytes json
printed_of bytes json is =
    let k = tree_of_json bytes json is in
    let lexemes = k.2 in
    let spells = spells_of_longest lexemes 0 bytes (spell_of_lexed lexemes 0 bytes k.3) in
    let parts = tokens_with_bytes bytes lexemes in
    let each = each_spelled lexemes 0 [] bytes refl spells in
    let whole : json ≡ joined parts = k.5 ∙ sym (joined_spelled bytes lexemes) in
    let same : tokens_with_bytes json (placed 0 parts) ≡ parts = ap (λ z. tokens_with_bytes z (placed 0 parts)) whole ∙ spelled_placed parts 0 [] refl each in
    record {
      lexemes = lexemes;
      printed = placed 0 parts;
      tree = k.1;
      read = k.3;
      utf8 = subst IsUtf8 (sym whole) (utf8_joined lexemes 0 [] [] bytes refl spells k.0);
      spells = subst (λ z. Spell z (placed 0 parts)) (sym whole) (placed_spells parts 0 each);
      is = tokens_placed parts 0 ∙ tokens_spelled bytes lexemes ∙ k.4;
      whole = sym (joined_spelled json (placed 0 parts)) ∙ ap joined same ∙ sym whole;
      same = same;
    }

pub is_json_again : (bytes json : List ℕ) → IsJson bytes json → IsJson json json
is_json_again bytes json is =
    let k = printed_of bytes json is in
    subst (IsJson json) k.whole (is_json_of_spelled json k.tree k.printed k.utf8 k.spells k.is)

pub same_tokens : (bytes json : List ℕ) → IsJson bytes json → (lexemes printed : List Lexeme) × (lexed {E = Infallible} (numbered 0 (items bytes)) ≡ items lexemes) × (lexed {E = Infallible} (numbered 0 (items json)) ≡ items printed) × (tokens_with_bytes json printed ≡ tokens_with_bytes bytes lexemes)
same_tokens bytes json is =
    let k = printed_of bytes json is in
    (k.lexemes, k.printed, k.read, lexed_of_spell k.printed 0 json (longest_of_tree json k.tree k.printed k.spells k.is), k.same)
