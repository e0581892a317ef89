-- A sheet tried in the next cell: whether the cells stay sound, and that all is as before where they do not.
use Rattle.std.proofs.Common.{◌≡◌, ℕ, suc, ◌+◌, ◌-◌, ◌%◌, ◌<◌, List, [], ◌∷◌, ◌++◌, length, filter, take, refl, ap, arith, sym, subst, ◌∙◌, true, false, ◌&&◌, All}
use Rattle.std.specs.Prelude.{slice_set, slice_index, slice_index_or}
use Rattle.std.specs.List.{list_all}
use Rattle.std.proofs.lemmas.List.{length-append, set-set, set-get_or}
use Rattle.std.proofs.Math.Seq.{take-append_seam}
use Rattle.sheet_laws.specs.Permutations.{InRange}
use Rattle.live_laws.specs.Walks.{mentions, never_fails, AreLetters}
use Rattle.live_laws.specs.Live.{Relations, may_follow, sound}
use Rattle.live_laws.proofs.CallerLemmas.{one_cell_more}
use Rattle.cover_search.specs.Columns.{Partial}
use Rattle.cover_search.specs.Courses.{IsCourse}
use Rattle.cover_search.proofs.Placing.{Next, next_of, spot}
use Rattle.cover_search.proofs.Passages.{by-recursion}
use Rattle.cover_search.proofs.Indexing.{same-relators, in-index}

module _ (P : Relations) (index : List (List ℕ)) (w : Partial) (h : IsCourse P index w) (x : ℕ) where
  -- the rules and the relators, by the columns of the walker
  sound-is : sound P w.sheets (w.cells ++ x ∷ [])
      ≡ (may_follow w.columns w.sheets w.cells x && list_all (never_fails w.columns w.sheets (w.cells ++ x ∷ [])) (filter (mentions (suc (length w.cells % w.columns))) P.relators))
  sound-is =
      subst
      (λ (c : ℕ). sound P w.sheets (w.cells ++ x ∷ []) ≡ (may_follow c w.sheets w.cells x && list_all (never_fails c w.sheets (w.cells ++ x ∷ [])) (filter (mentions (suc (length w.cells % c))) P.relators)))
      (sym h.columns)
      (one_cell_more P w.sheets w.cells x (by-recursion (AreLetters P.generators) P.relators h.letters) h.sound)

  -- the rules forbid it
  pub forbidden : may_follow w.columns w.sheets w.cells x ≡ false → false ≡ sound P w.sheets (w.cells ++ x ∷ [])
  forbidden e = sym (sound-is ∙ ap (λ b. b && list_all (never_fails w.columns w.sheets (w.cells ++ x ∷ [])) (filter (mentions (suc (length w.cells % w.columns))) P.relators)) e)

  module _ (may : may_follow w.columns w.sheets w.cells x ≡ true) where
    column-below : length w.cells % w.columns < P.generators
    column-below =
        let n : Next w.columns w.sheets w.cells x = next_of w.columns w.sheets w.cells x may in
        subst (λ (c : ℕ). length w.cells % w.columns < c) h.columns (spot w.columns w.sheets (length w.cells) n.room).column

    pub column-there : length w.cells % w.columns < length index
    column-there = omega (arith, column-below, h.indexed.long)

    pub some-column : 0 < w.columns
    some-column = let b = column-below in omega (arith, b, h.columns)

    pub numbers-ranged : All (InRange (length P.relators)) (slice_index_or index (length w.cells % w.columns) [])
    numbers-ranged = in-index P index (length w.cells % w.columns) h.indexed column-below

    -- the relators that name its generator decide
    pub decided : (v : Partial) (numbers : List ℕ) → v.columns ≡ w.columns → v.sheets ≡ w.sheets → v.cells ≡ w.cells ++ x ∷ [] → numbers ≡ slice_index_or index (length w.cells % w.columns) []
        → list_all (λ n. never_fails v.columns v.sheets v.cells (slice_index_or P.relators (n - 1) [])) numbers ≡ sound P w.sheets (w.cells ++ x ∷ [])
    decided v numbers a b d e =
        ap (λ (c : ℕ). list_all (λ n. never_fails c v.sheets v.cells (slice_index_or P.relators (n - 1) [])) numbers) a
        ∙ (ap (λ (m : ℕ). list_all (λ n. never_fails w.columns m v.cells (slice_index_or P.relators (n - 1) [])) numbers) b
        ∙ (ap (λ (q : List ℕ). list_all (λ n. never_fails w.columns w.sheets q (slice_index_or P.relators (n - 1) [])) numbers) d
        ∙ (ap (list_all (λ n. never_fails w.columns w.sheets (w.cells ++ x ∷ []) (slice_index_or P.relators (n - 1) []))) e
        ∙ (same-relators (never_fails w.columns w.sheets (w.cells ++ x ∷ [])) P index (length w.cells % w.columns) h.indexed column-below
        ∙ sym (sound-is ∙ ap (λ t. t && list_all (never_fails w.columns w.sheets (w.cells ++ x ∷ [])) (filter (mentions (suc (length w.cells % w.columns))) P.relators)) may)))))

-- a cell that is placed, taken away, and what stood there written again
pub restored : (w u v z : Partial) (x b : ℕ) → u ≡ record w { cells = w.cells ++ x ∷ []; written = slice_set w.written (length w.cells) x }
    → v ≡ record u { cells = take (length u.cells - 1) u.cells } → z ≡ record v { written = slice_set v.written (length v.cells) b } → b ≡ slice_index w.written (length w.cells) → z ≡ w
restored w u v z x b e f g d = g ∙ (ap (λ (y : Partial). record y { written = slice_set y.written (length y.cells) b }) f ∙ (ap (λ (y : Partial). back y) e ∙ same))
  where
    back : Partial → Partial
    back y = record y { cells = take (length y.cells - 1) y.cells; written = slice_set y.written (length (take (length y.cells - 1) y.cells)) b }

    front : take (length (w.cells ++ x ∷ []) - 1) (w.cells ++ x ∷ []) ≡ w.cells
    front = ap (λ n. take n (w.cells ++ x ∷ [])) (less (length (w.cells ++ x ∷ [])) (length w.cells) (length-append w.cells (x ∷ []))) ∙ take-append_seam w.cells (x ∷ [])
      where
        less : (a b : ℕ) → a ≡ b + 1 → a - 1 ≡ b
        less a b e = omega (arith, e)

    again : slice_set (slice_set w.written (length w.cells) x) (length (take (length (w.cells ++ x ∷ []) - 1) (w.cells ++ x ∷ []))) b ≡ w.written
    again =
        ap (λ p. slice_set (slice_set w.written (length w.cells) x) (length p) b) front
        ∙ (set-set w.written (length w.cells) x b ∙ (ap (slice_set w.written (length w.cells)) d ∙ set-get_or w.written (length w.cells) 0))

    same : record w {
      cells = take (length (w.cells ++ x ∷ []) - 1) (w.cells ++ x ∷ []);
      written = slice_set (slice_set w.written (length w.cells) x) (length (take (length (w.cells ++ x ∷ []) - 1) (w.cells ++ x ∷ []))) b;
    } ≡ w
    same = rw (again, front) refl
