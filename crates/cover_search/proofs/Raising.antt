-- An empty table.
use Rattle.std.proofs.Common.{◌≡◌, ℕ, zero, suc, ◌+◌, ◌*◌, ◌<◌, ◌≤◌, List, [], length, refl, ap, arith, sym, ◌∙◌, subst, ◌⊎◌, inl, inr, take, replicate, get_or, get_or-set_same, get_or-set_other, ◌^◌}
use Rattle.std.specs.Prelude.{if◌then◌else◌}
use Rattle.std.specs.Prelude.{nat_lt, ℤ, pos, negsuc, None, slice_set, slice_index_or}
use Rattle.std.proofs.lemmas.Bool.{lt-ltb, le-ltb, cases_lt}
use Rattle.std.proofs.lemmas.List.{get_or-map, length-replicate}
use Rattle.std.proofs.lemmas.Grind.{same_number_lists}
use Rattle.std.proofs.Math.Nat.{mul-le-mul_right, eq-or-lt_of_le}
use Rattle.live_laws.specs.Trees.{from}
use Rattle.live_laws.specs.Walks.{is_entry, led}
use Rattle.live_laws.specs.Live.{appeared}
use Rattle.cover_search.specs.Columns.{byte_of, bytes, blank, ahead, behind, IsWalker}
use Rattle.cover_search.proofs.Placing.{bytes-length, bytes-at, find-none, from-at}

blank-length : (m : ℕ) → length (blank m) ≡ 8
unfolding blank
blank-length m = refl

blank-at : (m s : ℕ) → s < 8 → get_or (blank m) s 0 ≡ (if nat_lt s m then 255 else s)
unfolding blank
blank-at m s l = get_or-map (λ s. (if nat_lt s m then 255 else s)) (from 0 8) s 0 0 l ∙ ap (λ s. (if nat_lt s m then 255 else s)) (from-at 0 8 s 0 l ∙ omega arith)

-- no letter leads anywhere in the empty table
pub led-none : (c m : ℕ) (l : ℤ) (s : ℕ) → led c m [] l s ≡ None
led-none c m (pos g) s = refl
led-none c m (negsuc g) s = find-none (λ u. is_entry c [] u (suc g) s) (from 1 m) (λ u. refl)

pub blank-bytes : (c m : ℕ) (l : ℤ) → blank m ≡ bytes c m [] l
blank-bytes c m l = same_number_lists (blank m) (bytes c m [] l) (blank-length m ∙ sym (bytes-length c m [] l))
    (λ s h. let k : s < 8 = subst (λ n. s < n) (blank-length m) h in blank-at m s k ∙ (sym (ap (λ o. (if nat_lt s m then byte_of o else s)) (led-none c m l (suc s))) ∙ sym (bytes-at c m [] l s k)))

-- one sheet more
pub blank-more : (row : List ℕ) (k : ℕ) → length row ≡ 8 → k < 8 → ((s : ℕ) → s < 8 → get_or row s 0 ≡ (if nat_lt s k then 255 else s)) → (s : ℕ) → s < 8 → get_or (slice_set row k 255) s 0 ≡ (if nat_lt s (k + 1) then 255 else s)
blank-more row k e l h s i = one (cases_lt s k)
  where
    both : (s m : ℕ) → s < m → (if nat_lt s m then 255 else s) ≡ 255
    both s m j = rw (lt-ltb s m j) refl

    none : (s m : ℕ) → m ≤ s → (if nat_lt s m then 255 else s) ≡ s
    none s m j = rw (le-ltb s m j) refl

    two : (k ≡ s) ⊎ (k < s) → get_or (slice_set row k 255) s 0 ≡ (if nat_lt s (k + 1) then 255 else s)
    two (inl j) = subst (λ n. get_or (slice_set row k 255) n 0 ≡ (if nat_lt n (k + 1) then 255 else n)) j (get_or-set_same row k 255 0 (omega (arith, l, e)) ∙ sym (both k (k + 1) (omega arith)))
    two (inr j) = get_or-set_other row k s 255 0 (λ v. far v j) ∙ (h s i ∙ (none s k (omega (arith, j)) ∙ sym (none s (k + 1) (omega (arith, j)))))
      where
        far : s ≡ k → k < s → ⊥
        far v j = omega (arith, v, j)

    one : (s < k) ⊎ (k ≤ s) → get_or (slice_set row k 255) s 0 ≡ (if nat_lt s (k + 1) then 255 else s)
    one (inl j) = get_or-set_other row k s 255 0 (λ v. far v j) ∙ (h s i ∙ (both s k j ∙ sym (both s (k + 1) (omega (arith, j)))))
      where
        far : s ≡ k → s < k → ⊥
        far v j = omega (arith, v, j)
    one (inr j) = two (eq-or-lt_of_le j)

pub blank-is : (row : List ℕ) (m : ℕ) → length row ≡ 8 → ((s : ℕ) → s < 8 → get_or row s 0 ≡ (if nat_lt s m then 255 else s)) → row ≡ blank m
blank-is row m e h = same_number_lists row (blank m) (e ∙ sym (blank-length m)) (λ s k. let i : s < 8 = subst (λ n. s < n) e k in h s i ∙ sym (blank-at m s i))

pub raised : (c m n at k : ℕ) (cells seen : List ℕ) (forward backward : List (List ℕ)) (ahead_of behind_of : List (List ℕ)) → IsWalker c m n at cells seen forward backward → 0 < k → k ≤ n
    → length ahead_of ≡ c → length behind_of ≡ c → ((g : ℕ) → g < c → slice_index_or ahead_of g [] ≡ blank k) → ((g : ℕ) → g < c → slice_index_or behind_of g [] ≡ blank k)
    → IsWalker c k n 0 cells seen ahead_of behind_of
raised c m n at k cells seen forward backward ahead_of behind_of w l h u v f b =
    let p : k * c ≤ n * c = mul-le-mul_right c h in
    record {
      least = l;
      most = omega (arith, h, w.top);
      kept = h;
      top = w.top;
      few = w.few;
      all_room = w.all_room;
      all_seen = w.all_seen;
      room = omega (arith, p, w.all_room);
      within = omega arith;
      seen_room = omega (arith, p, w.all_seen);
      seen_holds = λ i j. w.seen_holds i (omega (arith, j));
      rules = refl;
      forwards = u;
      backwards = v;
      forward_holds = λ g j. f g j ∙ blank-bytes c k (ahead g);
      backward_holds = λ g j. b g j ∙ blank-bytes c k (behind g);
    }

-- the first cells of a table of one sheet
pub made : (c n : ℕ) (forward backward : List (List ℕ)) → 1 ≤ n → n ≤ 8 → c < 2 ^ 32
    → length forward ≡ c → length backward ≡ c → ((g : ℕ) → g < c → slice_index_or forward g [] ≡ blank 1) → ((g : ℕ) → g < c → slice_index_or backward g [] ≡ blank 1)
    → IsWalker c 1 n 0 (replicate (n * c) 1) (replicate (n * c + 1) 1) forward backward
made c n forward backward l h few u v f w =
    let p : 1 * c ≤ n * c = mul-le-mul_right c l in
    let a : length {A = ℕ} (replicate (n * c) 1) ≡ n * c = length-replicate (n * c) 1 in
    let b : length {A = ℕ} (replicate (n * c + 1) 1) ≡ n * c + 1 = length-replicate (n * c + 1) 1 in
    record {
      least = omega arith;
      most = omega arith;
      kept = l;
      top = h;
      few = few;
      all_room = omega (arith, a);
      all_seen = omega (arith, b);
      room = omega (arith, a, p);
      within = omega arith;
      rules = refl;
      seen_room = omega (arith, b, p);
      seen_holds = first;
      forwards = u;
      backwards = v;
      forward_holds = λ g j. f g j ∙ blank-bytes c 1 (ahead g);
      backward_holds = λ g j. w g j ∙ blank-bytes c 1 (behind g);
    }
  where
    first : (k : ℕ) → k ≤ 0 → get_or (replicate (n * c + 1) 1) k 0 ≡ appeared 1 (take k (replicate (n * c) 1))
    first zero j = ap (λ (i : ℕ). get_or (replicate i 1) 0 0) (next (n * c))
      where
        next : (i : ℕ) → i + 1 ≡ suc i
        next i = omega arith
    first (suc k) j = absurd (omega (arith, j))
