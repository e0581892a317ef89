-- Extensions are linear, and the reduced rows are their coboundaries.
use Rattle.std.proofs.Common.{◌≡◌, ℕ, zero, suc, ◌<◌, List, [], ◌∷◌, length, map, replicate, refl, ap, sym, ◌∙◌, arith, subst}
use Rattle.std.proofs.lemmas.Simd.{length-replicate}
use Rattle.std.proofs.lemmas.List.{length-map, get_or-map, ext_get_or}
use Rattle.small_field.specs.Field.{Ops, IsField}
use Rattle.linear_laws.specs.Marks.{mark, identity}
use Rattle.linear_laws.specs.Vectors.{IsVector, IsMatrix, combination, plus_scaled, row_at}
use Rattle.linear_laws.proofs.CallerLemmas.{length-identity, identity_row, identity_matrix, combination-identity, zeros-elements, combination-vector, combination-plus, combination-zeros, plus_scaled-vector}
use Rattle.split_laws.specs.Kinds.{Kind, criticals, part, ZeroOnUppers}
use Rattle.split_laws.specs.Split.{IsSplit}
use Rattle.split_laws.specs.Solutions.{IsExtension, AreExtensions, IsReducedBy}
use Rattle.split_laws.proofs.Parts.{part-zeros, none-zeros, part-plus, part-combination, part-vector, none_less}
use Rattle.split_laws.proofs.Solved.{extension, extension_is_one}

-- ---- lists of rows

module _ (k : Ops) (f : IsField k) where
  pub zeros-vector : (n : ℕ) → IsVector k n (replicate n 0)
  zeros-vector n = record { long = length-replicate n 0; elements = zeros-elements k f n }

  -- the coboundary of a combination
  pub coboundary-combination : (n m : ℕ) (cs : List ℕ) (xs rows : List (List ℕ)) → IsMatrix k n xs → IsMatrix k m rows → length rows ≡ n → combination k m (combination k n cs xs) rows ≡ combination k m cs (map (λ x. combination k m x rows) xs)
  coboundary-combination n m [] xs rows a b l = combination-zeros k f m n rows b
  coboundary-combination n m (c ∷ cs) [] rows a b l = combination-zeros k f m n rows b
  coboundary-combination n m (c ∷ cs) (x ∷ xs) rows a b l =
      sym (combination-plus k f m c (combination k n cs xs) x rows b ((combination-vector k f n cs xs a.1).long ∙ sym l) (a.0.long ∙ sym l))
      ∙ ap (λ (r : List ℕ). plus_scaled k c r (combination k m x rows)) (coboundary-combination n m cs xs rows a.1 b l)

  module _ (n m : ℕ) (rows : List (List ℕ)) (ts us : List Kind) (s : IsSplit k n m rows ts us) where
    pub extension-zeros : IsExtension k n m rows ts us (replicate (criticals ts) 0) (replicate n 0)
    extension-zeros = record {
      vector = zeros-vector n;
      own = part-zeros ts n s.below;
      none = none-zeros ts n s.below;
      closed = subst (ZeroOnUppers us) (sym (combination-zeros k f m n rows s.matrix)) (none-zeros us m s.above);
    }

    pub extension-plus : (c : ℕ) (w v x y : List ℕ) → IsExtension k n m rows ts us w x → IsExtension k n m rows ts us v y → IsExtension k n m rows ts us (plus_scaled k c w v) (plus_scaled k c x y)
    extension-plus c w v x y p q = record {
      vector = plus_scaled-vector k f n c x y p.vector q.vector;
      own = part-plus k f ts c x y (p.vector.long ∙ sym q.vector.long) ∙ (ap (λ (r : List ℕ). plus_scaled k c r (part ts y)) p.own ∙ ap (plus_scaled k c w) q.own);
      none = none_less k f ts c x y p.none q.none;
      closed = subst (ZeroOnUppers us) (combination-plus k f m c x y rows s.matrix (p.vector.long ∙ sym s.long) (q.vector.long ∙ sym s.long)) (none_less k f us c (combination k m x rows) (combination k m y rows) p.closed q.closed);
    }

    pub extensions-matrix : (ws xs : List (List ℕ)) → AreExtensions k n m rows ts us ws xs → IsMatrix k n xs
    extensions-matrix [] [] h = tt
    extensions-matrix [] (x ∷ xs) h = absurd h
    extensions-matrix (w ∷ ws) [] h = absurd h
    extensions-matrix (w ∷ ws) (x ∷ xs) h = (h.0.vector, extensions-matrix ws xs h.1)

    pub extensions-long : (ws xs : List (List ℕ)) → AreExtensions k n m rows ts us ws xs → length xs ≡ length ws
    extensions-long [] [] h = refl
    extensions-long [] (x ∷ xs) h = absurd h
    extensions-long (w ∷ ws) [] h = absurd h
    extensions-long (w ∷ ws) (x ∷ xs) h = ap suc (extensions-long ws xs h.1)

    pub extension_at : (ws xs : List (List ℕ)) (i : ℕ) → AreExtensions k n m rows ts us ws xs → i < length ws → IsExtension k n m rows ts us (row_at ws i) (row_at xs i)
    extension_at [] [] i h lt = absurd (omega arith)
    extension_at [] (x ∷ xs) i h lt = absurd h
    extension_at (w ∷ ws) [] i h lt = absurd h
    extension_at (w ∷ ws) (x ∷ xs) zero h lt = h.0
    extension_at (w ∷ ws) (x ∷ xs) (suc i) h lt = extension_at ws xs i h.1 (omega arith)

    -- the extension of each
    pub extend_all : (ws : List (List ℕ)) → IsMatrix k (criticals ts) ws → (xs : List (List ℕ)) × AreExtensions k n m rows ts us ws xs
    extend_all [] a = ([], tt)
    extend_all (w ∷ ws) a =
        let x = extension k f n m rows ts us s w a.0 in
        let xs = extend_all ws a.1 in
        (x.0 ∷ xs.0, (x.1, xs.1))

    -- a combination of extensions is the extension of the combination
    pub extension-combination : (cs : List ℕ) (ws xs : List (List ℕ)) → AreExtensions k n m rows ts us ws xs → IsExtension k n m rows ts us (combination k (criticals ts) cs ws) (combination k n cs xs)
    extension-combination [] [] [] h = extension-zeros
    extension-combination [] [] (x ∷ xs) h = absurd h
    extension-combination [] (w ∷ ws) [] h = absurd h
    extension-combination [] (w ∷ ws) (x ∷ xs) h = extension-zeros
    extension-combination (c ∷ cs) [] [] h = extension-zeros
    extension-combination (c ∷ cs) [] (x ∷ xs) h = absurd h
    extension-combination (c ∷ cs) (w ∷ ws) [] h = absurd h
    extension-combination (c ∷ cs) (w ∷ ws) (x ∷ xs) h = extension-plus c (combination k (criticals ts) cs ws) w (combination k n cs xs) x (extension-combination cs ws xs h.1) h.0

    pub extension-part : (w x : List ℕ) → IsExtension k n m rows ts us w x → IsVector k (criticals ts) w
    extension-part w x e = subst (IsVector k (criticals ts)) e.own (part-vector k f ts n x s.below e.vector)

    -- ---- reduced rows
    module _ (reduced : List (List ℕ)) (r : IsReducedBy k n m rows ts us reduced) where
      -- the extensions of the marks, and their coboundaries at the critical cells
      pub marks : (es : List (List ℕ)) × AreExtensions k n m rows ts us (identity (criticals ts)) es
      marks = extend_all (identity (criticals ts)) (identity_matrix k f (criticals ts))

      pub mark_at : (i : ℕ) → i < criticals ts → IsExtension k n m rows ts us (mark (criticals ts) i) (row_at marks.0 i)
      mark_at i lt =
          let c : ℕ = criticals ts in
          subst (λ (w : List ℕ). IsExtension k n m rows ts us w (row_at marks.0 i)) (identity_row c i lt)
          (extension_at (identity c) marks.0 i marks.1 (subst (λ (x : ℕ). i < x) (sym (length-identity c)) lt))

      pub marks_long : length marks.0 ≡ criticals ts
      marks_long = extensions-long (identity (criticals ts)) marks.0 marks.1 ∙ length-identity (criticals ts)

      pub row_is : (i : ℕ) → i < criticals ts → row_at reduced i ≡ part us (combination k m (row_at marks.0 i) rows)
      row_is i lt = r.each i (row_at marks.0 i) lt (mark_at i lt)

      map_map : (xs : List (List ℕ)) → map (part us) (map (λ x. combination k m x rows) xs) ≡ map (λ x. part us (combination k m x rows)) xs
      map_map [] = refl
      map_map (x ∷ xs) = ap (λ (zs : List (List ℕ)). part us (combination k m x rows) ∷ zs) (map_map xs)

      rows_are : map (λ x. part us (combination k m x rows)) marks.0 ≡ reduced
      rows_are =
          let g : List ℕ → List ℕ = λ x. part us (combination k m x rows) in
          let long : length (map g marks.0) ≡ criticals ts = length-map marks.0 g ∙ marks_long in
          ext_get_or [] (map g marks.0) reduced (long ∙ sym r.long)
          (λ i lt.
          let li : i < criticals ts = subst (λ (x : ℕ). i < x) long lt in
          get_or-map g marks.0 i [] [] (subst (λ (x : ℕ). i < x) (sym marks_long) li) ∙ sym (row_is i li))

      coboundaries_matrix : (xs : List (List ℕ)) → IsMatrix k m (map (λ x. combination k m x rows) xs)
      coboundaries_matrix [] = tt
      coboundaries_matrix (x ∷ xs) = (combination-vector k f m x rows s.matrix, coboundaries_matrix xs)

      -- at the critical cells the coboundary of an extension is the combination of the reduced rows
      pub reduced_coboundary : (w x : List ℕ) → IsExtension k n m rows ts us w x → part us (combination k m x rows) ≡ combination k (criticals us) w reduced
      reduced_coboundary w x e =
          let c : ℕ = criticals ts in
          let ex : IsExtension k n m rows ts us (combination k c w (identity c)) (combination k n w marks.0) = extension-combination w (identity c) marks.0 marks.1 in
          let ew : IsExtension k n m rows ts us w (combination k n w marks.0) = subst (λ (v : List ℕ). IsExtension k n m rows ts us v (combination k n w marks.0)) (combination-identity k f c w (extension-part w x e)) ex in
          let xs : x ≡ combination k n w marks.0 = extension_is_one k f n m rows ts us s w x (combination k n w marks.0) e ew in
          let ms : IsMatrix k n marks.0 = extensions-matrix (identity c) marks.0 marks.1 in
          ap (λ (v : List ℕ). part us (combination k m v rows)) xs
          ∙ (ap (part us) (coboundary-combination n m w marks.0 rows ms s.matrix s.long)
          ∙ (part-combination k f us m w (map (λ v. combination k m v rows) marks.0) s.above (coboundaries_matrix marks.0)
          ∙ ap (combination k (criticals us) w) (map_map marks.0 ∙ rows_are)))
