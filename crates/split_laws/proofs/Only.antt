-- Exactly one of each.
use Rattle.small_field.specs.Field.{Ops, IsField}
use Rattle.split_laws.specs.Laws.{SolutionsAreOne}
use Rattle.split_laws.proofs.Solved.{extension, extension_is_one, flow, flow_is_one, clearing, clearing_is_one}

module _ (F : Ops) (L : IsField F) where
  pub solutions_are_one : SolutionsAreOne F
  solutions_are_one = record {
    extension = λ n m rows ts us s w v.
        let x = extension F L n m rows ts us s w v in
        (x.0, x.1, λ y h. extension_is_one F L n m rows ts us s w y x.0 h x.1);
    flow = λ n m rows ts us s c v.
        let z = flow F L n m rows ts us s c v in
        (z.0, z.1, λ y h. flow_is_one F L n m rows ts us s c y z.0 h z.1);
    clearing = λ n m rows ts us s x v.
        let c = clearing F L n m rows ts us s x v in
        (c.0, c.1, c.2, λ w z h. clearing_is_one F L n m rows ts us s x c.0 w c.1 z v c.2 h);
  }
