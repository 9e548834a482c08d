-- How many bytes are UTF-8, of bytes that come a part at a time.
use Rattle.std.proofs.Common.{Bool, Option, None, Some, false, get_or, get_or-drop, if◌then◌else◌, ◌≡◌, ◌⊎◌, ℕ, zero, suc, ◌+◌, ◌-◌, ◌*◌, ◌<◌, ◌≤◌, true, List, [], ◌∷◌, ◌++◌, length, take, drop, IsUtf8, refl, sym, subst, ap, ◌∙◌, arith, inl, inr, ⊎_elim, true≢false, length-append, length-drop, length-take, take_all, take-add, take-take}
use Rattle.std.proofs.Math.Seq.{drop-append_seam, take-append_seam}
use Rattle.std.proofs.lemmas.Bool.{cases_Bool, cases_lt, cond-true, cond-false}
use Rattle.std.proofs.lemmas.List.{drop-take, take-append-le}
use Rattle.std.proofs.lemmas.Str.{IsUtf8-append, IsUtf8-drop, IsUtf8-nil, IsCharBoundary-from_take, IsUtf8-from_is_utf8, is_utf8-from_IsUtf8, utf8_valid_len-IsUtf8, utf8_valid_len-IsValidUpTo}
use Rattle.std.proofs.lemmas.Bool.Decides.{nat_tests}
use Rattle.std.proofs.Math.ListN.{get_or-append}
use Rattle.std.proofs.str.Faults.{Ranged, no_char, valid_to}
use Rattle.std.proofs.str.Laws.{Follows}
use Rattle.std.proofs.str.Lossy.{utf8_error_len-nil, utf8_error_len_some}
use Rattle.std.proofs.str.Valid.{of_one, of_two, of_three, of_four}
use Rattle.std.specs.Int.{is_in_range}
use Rattle.std.specs.Prelude.{nat_lt}
use Rattle.std.specs.Option.{is_some}
use Rattle.std.specs.Str.{IsValidUpTo, is_utf8}
use Rattle.std.specs.Str.Lossy.{error_len_after_one, error_len_after_two, error_len_of_some, second_byte_max, second_byte_min, utf8_error_len, utf8_valid_len, valid_len_up_to}

longest_front : (bs : List ℕ) (m : ℕ) → IsUtf8 (take (valid_len_up_to bs m) bs) × ((k : ℕ) → valid_len_up_to bs m < k → k ≤ m → ¬ (IsUtf8 (take k bs)))
longest_front bs zero = (IsUtf8-nil, λ k above within. absurd (omega arith))
longest_front bs (suc m) =
    let rest = longest_front bs m in
    ⊎_elim
    (λ yes.
    let is : valid_len_up_to bs (suc m) ≡ suc m = cond-true _ _ _ yes in
    (subst (λ n. IsUtf8 (take n bs)) (sym is) (IsUtf8-from_is_utf8 _ yes), λ k above within. absurd (omega arith)))
    (λ no.
    let is : valid_len_up_to bs (suc m) ≡ valid_len_up_to bs m = cond-false _ _ _ no in (
      subst (λ n. IsUtf8 (take n bs)) (sym is) rest.0,
      λ k above within u. ⊎_elim
          (λ (top : m < k).
          let same : k ≡ suc m = omega arith in
          true≢false (sym (is_utf8-from_IsUtf8 _ (subst (λ n. IsUtf8 (take n bs)) same u)) ∙ no))
          (λ (low : k ≤ m). rest.1 k (omega arith) low u)
          (cases_lt m k),
    ))
    (cases_Bool (is_utf8 (take (suc m) bs)))

-- bytes are UTF-8, or up to this place and no further
pub valid_cases : (bs : List ℕ) → IsUtf8 bs ⊎ IsValidUpTo bs (utf8_valid_len bs)
unfolding utf8_valid_len
valid_cases bs =
    let n = utf8_valid_len bs in
    let front = longest_front bs (length bs) in
    ⊎_elim
    (λ (short : n < length bs). inr (record {
      short = short;
      front = front.0;
      longest = λ m above u. ⊎_elim
          (λ (past : length bs < m).
          front.1 (length bs) short (omega arith) (subst IsUtf8 (take_all m bs (omega arith) ∙ sym (take_all (length bs) bs (omega arith))) u))
          (λ (within : m ≤ length bs). front.1 m above within u)
          (cases_lt (length bs) m);
    }))
    (λ (all : length bs ≤ n). inl (subst IsUtf8 (take_all n bs all) front.0))
    (cases_lt n (length bs))

-- the first ones, so many, are UTF-8
pub valid_front : (bs : List ℕ) → IsUtf8 (take (utf8_valid_len bs) bs)
valid_front bs =
    ⊎_elim
    (λ (u : IsUtf8 bs). let all = utf8_valid_len-IsUtf8 bs u in subst IsUtf8 (sym (take_all (utf8_valid_len bs) bs (omega (arith, all)))) u)
    (λ (v : IsValidUpTo bs (utf8_valid_len bs)). v.front)
    (valid_cases bs)

module _ (bs : List ℕ) (at : ℕ) (within : at ≤ length bs) (front : IsUtf8 (take at bs)) where
  front_and_part : (n : ℕ) → IsUtf8 (take n (drop at bs)) → IsUtf8 (take (at + n) bs)
  front_and_part n part = rw take-add (IsUtf8-append _ _ front part)

  rest_of_whole : IsUtf8 bs → IsUtf8 (drop at bs)
  rest_of_whole whole = IsUtf8-drop bs at whole (IsCharBoundary-from_take bs at whole within front)

up_to_after : (bs : List ℕ) (at k : ℕ) → at ≤ length bs → IsUtf8 (take at bs) → IsValidUpTo (drop at bs) k → IsValidUpTo bs (at + k)
up_to_after bs at k within front v = record {
  short = omega (arith, v.short, length-drop at bs);
  front = front_and_part bs at within front k v.front;
  longest = λ m more u.
      let e : at + (m - at) ≡ m = omega arith in
      let rest = rest_of_whole (take m bs) at (omega (arith, length-take m bs)) (rw (take-take at m bs (omega arith)) front) u in
      v.longest (m - at) (omega arith) (rw (← drop-take at (m - at) bs, e) rest);
}

-- bytes that are UTF-8 stand before others
pub valid_after : (a b : List ℕ) → IsUtf8 a → utf8_valid_len (a ++ b) ≡ length a + utf8_valid_len b
valid_after a b u =
    let long = length-append a b in
    ⊎_elim
    (λ (v : IsUtf8 b). let all = utf8_valid_len-IsUtf8 b v in utf8_valid_len-IsUtf8 (a ++ b) (IsUtf8-append a b u v) ∙ omega (arith, all, long))
    (λ (v : IsValidUpTo b (utf8_valid_len b)).
    utf8_valid_len-IsValidUpTo (a ++ b) _ (up_to_after (a ++ b) (length a) (utf8_valid_len b) (omega (arith, long)) (subst IsUtf8 (sym (take-append_seam a b)) u) (subst (λ l. IsValidUpTo l (utf8_valid_len b)) (sym (drop-append_seam a b)) v)))
    (valid_cases b)

-- ---- where no character begins and none is cut off, none begins whatever comes after

of_if : (c : Bool) (a b : Option ℕ) → is_some (if c then a else b) ≡ true → ((c ≡ true) × (is_some a ≡ true)) ⊎ ((c ≡ false) × (is_some b ≡ true))
of_if true a b h = inl (refl, h)
of_if false a b h = inr (refl, h)

not_some : {A : Type 0} (o : Option ℕ) → o ≡ None → is_some o ≡ true → A
not_some None e h = absurd (let f : false ≡ true = h in cc)
not_some (Some x) e h = absurd cc

out_of : (lo hi x : ℕ) → is_in_range lo hi x ≡ false → (x < lo) ⊎ (hi < x)
out_of lo hi x h = grind (arith, nat_tests)

at_least : (a b : ℕ) → nat_lt a b ≡ false → b ≤ a
at_least a b h = grind (arith, nat_tests)

-- why no character begins so many bytes, of which these are the first: the first is out of range, or the second or the third, or there is a fourth
abbrev Why : ℕ → ℕ → ℕ → ℕ → Type 0
Why n x y z = ((x < 194) ⊎ (244 < x)) ⊎ ((1 < n) × ((y < second_byte_min x) ⊎ (second_byte_max x < y))) ⊎ ((2 < n) × ((z < 128) ⊎ (191 < z))) ⊎ (3 < n)

abbrev WhyOf : List ℕ → Type 0
WhyOf d = Why (length d) (get_or d 0 0) (get_or d 1 0) (get_or d 2 0)

why_two : (d : List ℕ) → is_some (error_len_after_two d) ≡ true → WhyOf d
why_two d h =
    ⊎_elim (λ p. not_some None refl p.1)
    (λ p.
    let three = at_least (length d) 3 p.0 in
    ⊎_elim (λ q. ⊎_elim (λ r. not_some None refl r.1) (λ r. let four = at_least (length d) 4 r.0 in inr (inr (inr (omega (arith, four))))) (of_if (nat_lt (length d) 4) None (Some 3) q.1))
    (λ q. inr (inr (inl (omega (arith, three), out_of 128 191 (get_or d 2 0) q.0))))
    (of_if (is_in_range 128 191 (get_or d 2 0)) (if nat_lt (length d) 4 then None else Some 3) (Some 2) p.1))
    (of_if (nat_lt (length d) 3) None (if is_in_range 128 191 (get_or d 2 0) then (if nat_lt (length d) 4 then None else Some 3) else Some 2) h)

why_one : (d : List ℕ) → is_some (error_len_after_one d) ≡ true → WhyOf d
why_one d h =
    let x = get_or d 0 0 in
    let in' = is_in_range (second_byte_min x) (second_byte_max x) (get_or d 1 0) in
    ⊎_elim (λ p. not_some None refl p.1)
    (λ p.
    let two = at_least (length d) 2 p.0 in
    ⊎_elim (λ q. why_two d q.1)
    (λ q. inr (inl (omega (arith, two), out_of (second_byte_min x) (second_byte_max x) (get_or d 1 0) q.0)))
    (of_if in' (error_len_after_two d) (Some 1) p.1))
    (of_if (nat_lt (length d) 2) None (if in' then error_len_after_two d else Some 1) h)

why : (d : List ℕ) → is_some (utf8_error_len d) ≡ true → (0 < length d) × WhyOf d
why [] h = not_some (utf8_error_len []) utf8_error_len-nil h
why (x ∷ d) h =
    let some : 0 < length (x ∷ d) = omega arith in
    let of_some : is_some (error_len_of_some (x ∷ d)) ≡ true = ap is_some (sym (utf8_error_len_some (x ∷ d) some)) ∙ h in
    (some, ⊎_elim (λ p. why_one (x ∷ d) p.1) (λ p. inl (out_of 194 244 x p.0)) (of_if (is_in_range 194 244 x) (error_len_after_one (x ∷ d)) (Some 1) of_some))

low_second : (x y : ℕ) → y < second_byte_min x → 128 ≤ y → ((x ≡ 224) × (y < 160)) ⊎ ((x ≡ 240) × (y < 144))
low_second x y h k = grind (arith, nat_tests)

high_second : (x y : ℕ) → second_byte_max x < y → y < 192 → ((x ≡ 237) × (159 < y)) ⊎ ((x ≡ 244) × (143 < y))
high_second x y h k = grind (arith, nat_tests)

-- bytes that begin no character, and yet are followed by such with which they would
module _ (n m x y z w y' z' w' : ℕ) (high : 128 ≤ x) (r : Ranged m x y' z' w') (same_y : 1 < n → y' ≡ y) (same_z : 2 < n → z' ≡ z) (same_w : 3 < n → w' ≡ w) where
  module _ (two : 1 < n → 194 ≤ x → x < 224 → Follows y → ⊥) (three : 2 < n → 224 ≤ x → x < 240 → Follows y → Follows z → (let k : ℕ = (x - 224) * 64 + (y - 128) in (32 ≤ k) × ((k < 864) ⊎ (896 ≤ k))) → ⊥) (four : 3 < n → 240 ≤ x → Follows y → Follows z → Follows w → (let k : ℕ = (x - 240) * 64 + (y - 128) in (16 ≤ k) × (k < 272)) → ⊥) where
    no_range : Why n x y z → ⊥
    no_range (inl (inl low)) = let a = (r.second high).0 in omega (arith, a, low)
    no_range (inl (inr up)) = let a = (r.fourth (omega (arith, up))).2.1 in omega (arith, a, up)
    no_range (inr (inl (l, inl low))) =
        let e = same_y l in
        let f = (r.second high).2 in
        let g = f.0 in
        ⊎_elim
        (λ (p : (x ≡ 224) × (y < 160)). let a = p.0 in let b = p.1 in let c = (r.in_three (omega (arith, a)) (omega (arith, a))).0 in omega (arith, a, b, c, e, g))
        (λ (p : (x ≡ 240) × (y < 144)). let a = p.0 in let b = p.1 in let c = (r.fourth (omega (arith, a))).2.0 in omega (arith, a, b, c, e, g))
        (low_second x y low (omega (arith, e, g)))
    no_range (inr (inl (l, inr up))) =
        let e = same_y l in
        let f = (r.second high).2 in
        let g = f.1 in
        ⊎_elim
        (λ (p : (x ≡ 237) × (159 < y)).
        let a = p.0 in
        let b = p.1 in
        ⊎_elim (λ (c : (x - 224) * 64 + (y' - 128) < 864). omega (arith, a, b, c, e)) (λ (c : 896 ≤ (x - 224) * 64 + (y' - 128)). omega (arith, a, b, c, e, g)) (r.in_three (omega (arith, a)) (omega (arith, a))).1)
        (λ (p : (x ≡ 244) × (143 < y)). let a = p.0 in let b = p.1 in let c = (r.fourth (omega (arith, a))).2.1 in omega (arith, a, b, c, e))
        (high_second x y up (omega (arith, e, g)))
    no_range (inr (inr (inl (l, out)))) =
        let e = same_y (omega (arith, l)) in
        let k = same_z l in
        let f = r.second high in
        ⊎_elim
        (λ (less : x < 224). two (omega (arith, l)) f.0 less (subst Follows e f.2))
        (λ (more : 224 ≤ x). let g = (r.third more).1 in let a = g.0 in let b = g.1 in ⊎_elim (λ (c : z < 128). omega (arith, a, c, k)) (λ (c : 191 < z). omega (arith, b, c, k)) out)
        (cases_lt x 224)
    no_range (inr (inr (inr l))) =
        let e = same_y (omega (arith, l)) in
        let k = same_z (omega (arith, l)) in
        let f = r.second high in
        ⊎_elim
        (λ (less : x < 224). two (omega (arith, l)) f.0 less (subst Follows e f.2))
        (λ (more : 224 ≤ x).
        let g = subst Follows k (r.third more).1 in
        ⊎_elim
        (λ (less : x < 240). three (omega (arith, l)) more less (subst Follows e f.2) g (subst (λ (j : ℕ). let i : ℕ = (x - 224) * 64 + (j - 128) in (32 ≤ i) × ((i < 864) ⊎ (896 ≤ i))) e (r.in_three more less)))
        (λ (most : 240 ≤ x). let i = r.fourth most in four l most (subst Follows e f.2) g (subst Follows (same_w l) i.1) (subst (λ (j : ℕ). let h : ℕ = (x - 240) * 64 + (j - 128) in (16 ≤ h) × (h < 272)) e i.2))
        (cases_lt x 240))
        (cases_lt x 224)

module _ (b more : List ℕ) (n : ℕ) (v : IsValidUpTo b n) where
  none_more : (w : ℕ) → 0 < w → IsUtf8 (take w (drop n b)) → ⊥
  none_more w some u = let short = v.short in v.longest (n + w) (omega (arith, some)) (front_and_part b n (omega (arith, short)) v.front w u)

  byte_at : (k : ℕ) → k < length (drop n b) → get_or (b ++ more) (n + k) 0 ≡ get_or (drop n b) k 0
  byte_at k h = get_or-append b more 0 (n + k) (omega (arith, h, length-drop n b)) ∙ sym (get_or-drop n b k 0)

  of_b : (k : ℕ) → get_or (drop n b) k 0 ≡ get_or b (n + k) 0
  of_b k = get_or-drop n b k 0

  first_of_b : get_or (drop n b) 0 0 ≡ get_or b n 0
  first_of_b = get_or-drop n b 0 0 ∙ ap (λ (k : ℕ). get_or b k 0) (let e : n + 0 ≡ n = omega arith in e)

  none_begins : WhyOf (drop n b) → Ranged (length (b ++ more) - n) (get_or (b ++ more) n 0) (get_or (b ++ more) (n + 1) 0) (get_or (b ++ more) (n + 2) 0) (get_or (b ++ more) (n + 3) 0) → ⊥
  none_begins w r =
      let d = drop n b in
      let short = v.short in
      let long = length-drop n b in
      let first : get_or (b ++ more) n 0 ≡ get_or d 0 0 = get_or-append b more 0 n short ∙ sym first_of_b in
      let high : 128 ≤ get_or d 0 0 = ⊎_elim (λ (low : get_or b n 0 < 128). absurd (none_more 1 (omega arith) (of_one b n short low))) (λ (h : 128 ≤ get_or b n 0). subst (λ (k : ℕ). 128 ≤ k) (sym first_of_b) h) (cases_lt (get_or b n 0) 128) in
      no_range (length d) (length (b ++ more) - n) (get_or d 0 0) (get_or d 1 0) (get_or d 2 0) (get_or d 3 0) (get_or (b ++ more) (n + 1) 0) (get_or (b ++ more) (n + 2) 0) (get_or (b ++ more) (n + 3) 0) high
      (subst (λ (k : ℕ). Ranged (length (b ++ more) - n) k (get_or (b ++ more) (n + 1) 0) (get_or (b ++ more) (n + 2) 0) (get_or (b ++ more) (n + 3) 0)) first r)
      (λ h. byte_at 1 h) (λ h. byte_at 2 h) (λ h. byte_at 3 h)
      (λ l lo hi f. none_more 2 (omega arith) (of_two b n (omega (arith, l, long)) (omega (arith, lo, first_of_b), omega (arith, hi, first_of_b)) (subst Follows (of_b 1) f)))
      (λ l lo hi f g t.
      let e = first_of_b in
      let e1 = of_b 1 in
      let e2 = of_b 2 in
      let a = t.0 in
      let g0 = g.0 in
      let g1 = g.1 in
      none_more 3 (omega arith) (of_three b n (omega (arith, l, long)) (omega (arith, lo, e), omega (arith, hi, e)) (subst Follows e1 f) (subst Follows e2 g) (omega (arith, a, e, e1, e2, g0))
      (⊎_elim (λ (c : (get_or d 0 0 - 224) * 64 + (get_or d 1 0 - 128) < 864). inl (omega (arith, c, e, e1, e2, g1))) (λ (c : 896 ≤ (get_or d 0 0 - 224) * 64 + (get_or d 1 0 - 128)). inr (omega (arith, c, e, e1, e2))) t.1)))
      (λ l lo f g j t.
      let e = first_of_b in
      let e1 = of_b 1 in
      let a = t.0 in
      let c = t.1 in
      none_more 4 (omega arith) (of_four b n (omega (arith, l, long)) (omega (arith, lo, e)) (subst Follows e1 f) (subst Follows (of_b 2) g) (subst Follows (of_b 3) j) (omega (arith, a, e, e1), omega (arith, c, e, e1))))
      w

pub valid_broken : (b more : List ℕ) → is_some (utf8_error_len (drop (utf8_valid_len b) b)) ≡ true → utf8_valid_len (b ++ more) ≡ utf8_valid_len b
valid_broken b more broken =
    let n = utf8_valid_len b in
    let w = why (drop n b) broken in
    let some = w.0 in
    let long = length-drop n b in
    let all = length-append b more in
    ⊎_elim
    (λ (u : IsUtf8 b). absurd (omega (arith, some, long, utf8_valid_len-IsUtf8 b u)))
    (λ (v : IsValidUpTo b n).
    let short = v.short in
    utf8_valid_len-IsValidUpTo (b ++ more) n (valid_to (b ++ more) n (omega (arith, short, all)) (subst IsUtf8 (sym (take-append-le n b more (omega (arith, short)))) v.front) (no_char (b ++ more) n (λ r. none_begins b more n v w.1 r))))
    (valid_cases b)
