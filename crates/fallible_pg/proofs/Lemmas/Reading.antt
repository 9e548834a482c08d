-- Lemmas on bytes that were read, and on the message that they begin.
use Rattle.std.proofs.Common.{length-take, false, true, ◌≡◌, ℕ, ◌+◌, ◌-◌, ◌≤◌, Bool, List, [], ◌∷◌, ◌++◌, length, Option, Some, Ok, Err, refl, sym, ap, subst, ◌∙◌, arith}
use Rattle.std.proofs.lemmas.List.{length-append}
use Rattle.std.specs.Prelude.{vec_items}
use Rattle.std.specs.declared.alloc.Global.{Global}
use Rattle.std.specs.declared.vec.Vec.{Vec}
use Rattle.fallible_iterator.specs.Laws.Closures.{folds_to_in_turn}
use Rattle.program_io.specs.Bytes.{GivesByte, GivesBytes, StopsShort, ReadsUpTo}
use Rattle.program_io.specs.declared.reading.Unread.{Unread}
use Rattle.program_io.specs.declared.reading.Unread.TheVariants.{End, Failed, Memory}
use Rattle.fallible_pg.specs.Numbers.{u32_at}
use Rattle.fallible_pg.specs.Reading.{but_last, broken_by, BreaksOff, ReadsMessage, ReadsTag, tag_bytes}
use Rattle.fallible_pg.specs.Sizes.{is_length, IsMessage}
use Rattle.fallible_pg.proofs.Lemmas.Size.{u32_at-front, first_size-short, first_size-wrong, first_size-cut, first_size-whole, first_size-but_last}
use Rattle.fallible_pg.specs.declared.fault.Damage.TheVariants.{Length}
use Rattle.fallible_pg.specs.declared.reading.Broken.{Broken}
use Rattle.fallible_pg.specs.declared.reading.Broken.TheVariants as Why

-- nothing is said of the bytes for which there was no room
abbrev pub unsaid : List ℕ → Type 0
unsaid bytes = Unit {0}

module _ {R : Type 0} (left : R → Option (List ℕ)) (stays : Bool → R → R → Type 0) where
  gives_bytes_then : (xs ys : List ℕ) (p q r : R) → GivesBytes left stays p xs q → GivesBytes left stays q ys r → GivesBytes left stays p (xs ++ ys) r
  gives_bytes_then xs ys p q r h k = folds_to_in_turn (GivesByte left stays) xs ys p q r h k

  -- ---- a message

  breaks_in_head : (begun : List ℕ) (last q : R) (why : Unread) → 1 ≤ length begun → StopsShort left stays 5 (length begun) last why q → BreaksOff left stays unsaid begun last (broken_by why) q
  breaks_in_head begun last q End some h = (first_size-short begun h.0, h.1, some)
  breaks_in_head begun last q Failed some h = (first_size-short begun h.0, h.1)
  breaks_in_head begun last q Memory some h = (let few = h.0 in first_size-short (but_last begun) (omega (arith, few, some, length-take (length begun - 1) begun)), tt, h.1, some)

  breaks_in_body : (n : ℕ) (begun : List ℕ) (last q : R) (why : Unread) → u32_at begun 1 ≡ n → is_length n ≡ true → 5 ≤ length begun → StopsShort left stays (n + 1) (length begun) last why q → BreaksOff left stays unsaid begun last (broken_by why) q
  breaks_in_body n begun last q End stated right long h = (let few = h.0 in first_size-cut begun n stated long right (omega (arith, few)), h.1, omega (arith, long))
  breaks_in_body n begun last q Failed stated right long h = (let few = h.0 in first_size-cut begun n stated long right (omega (arith, few)), h.1)
  breaks_in_body n begun last q Memory stated right long h = (first_size-but_last begun n (λ _. stated) right h.0, tt, h.1, omega (arith, long))

  -- a message whose tag wasn't read
  pub tag_broken : (r q : R) (why : Broken) → ReadsTag left stays r (Err why) q → ReadsMessage left stays unsaid r (Err why) q
  tag_broken r q Why.Read h = ([], r, refl, (first_size-short [] (omega arith), h))
  tag_broken r q Why.Memory h = (h.0 ∷ [], q, (q, h.1, refl), (first_size-short [] (omega arith), tt, refl, omega arith))
  tag_broken r q (Why.Damaged damage) h = absurd h

  pub tag_read : {o : Option (Vec ℕ Global)} (r t : R) (bytes : Vec ℕ Global) → o ≡ Some bytes → ReadsTag left stays r (tag_bytes (Ok o)) t → ReadsTag left stays r (Ok (Some (vec_items bytes))) t
  tag_read r t bytes is h = subst (λ (o : Option (Vec ℕ Global)). ReadsTag left stays r (tag_bytes (Ok o)) t) is h

  -- the first five bytes, the first of which was read before
  pub head_read : (r t p : R) (old head : List ℕ) (done : Unit {0}) → ReadsTag left stays r (Ok (Some old)) t → ReadsUpTo left stays t old 5 (Ok done) head p → GivesBytes left stays r head p × (length head ≡ 5)
  head_read r t p old head done tag h = (subst (λ l. GivesBytes left stays r l p) (sym (h.1 ∙ ap (λ l. l ++ h.0) tag.1)) (t, tag.2, h.2), h.3)

  pub head_broken : (r t q : R) (old new : List ℕ) (why : Unread) → ReadsTag left stays r (Ok (Some old)) t → ReadsUpTo left stays {U = Unit {0}} t old 5 (Err why) new q → ReadsMessage left stays unsaid r (Err (broken_by why)) q
  head_broken r t q old new why tag h = (tag.0 ∷ h.0, h.1, (t, tag.2, h.2), breaks_in_head (tag.0 ∷ h.0) h.1 q why (omega arith) (subst (λ l. StopsShort left stays 5 (length (l ++ h.0)) h.1 why q) tag.1 h.3))

  -- the first five bytes were read, and this length stands in them
  pub record HasHead (r p : R) (head slice : List ℕ) (n : ℕ) : Type 0 where
    pub came : GivesBytes left stays r head p × (length head ≡ 5)
    pub same : slice ≡ head
    pub stated : n ≡ u32_at slice 1

module _ {R : Type 0} {left : R → Option (List ℕ)} {stays : Bool → R → R → Type 0} {r p : R} {head slice : List ℕ} {n : ℕ} (begins : HasHead left stays r p head slice n) where
  head_states : u32_at head 1 ≡ n
  head_states = sym (begins.stated ∙ ap (λ l. u32_at l 1) begins.same)

  head_long : 5 ≤ length head
  head_long = let five = begins.came.1 in omega (arith, five)

  pub wrong_length : is_length n ≡ false → ReadsMessage left stays unsaid r (Err (Why.Damaged (Length n))) p
  wrong_length wrong = (head, p, begins.came.0, (first_size-wrong head n head_states head_long wrong, begins.came.1, refl))

  pub body_broken : (q : R) (new : List ℕ) (why : Unread) → is_length n ≡ true → ReadsUpTo left stays {U = Unit {0}} p head (n + 1) (Err why) new q → ReadsMessage left stays unsaid r (Err (broken_by why)) q
  body_broken q new why right h =
      (head ++ h.0, h.1, gives_bytes_then left stays head h.0 r p h.1 begins.came.0 h.2, breaks_in_body left stays n (head ++ h.0) h.1 q why (u32_at-front head h.0 head_long ∙ head_states) right (let five = begins.came.1 in omega (arith, five, length-append head h.0)) h.3)

  pub message_read : (q : R) (new : List ℕ) (done : Unit {0}) → is_length n ≡ true → ReadsUpTo left stays p head (n + 1) (Ok done) new q → GivesBytes left stays r new q × IsMessage new × (5 ≤ length new)
  message_read q new done right h =
      let long : 5 ≤ length new = let five = begins.came.1 in let are = ap length h.1 in omega (arith, five, are, length-append head h.0) in
      let states : u32_at new 1 ≡ n = ap (λ l. u32_at l 1) h.1 ∙ u32_at-front head h.0 head_long ∙ head_states in
      let size = h.3 in (
        subst (λ l. GivesBytes left stays r l q) (sym h.1) (gives_bytes_then left stays head h.0 r p q begins.came.0 h.2),
        first_size-whole new n states long right (omega (arith, size)) ∙ ap (λ k. Ok k) (sym h.3),
        long,
      )
