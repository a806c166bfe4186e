-- What stands of the first path: for each path that is first one standing, and no other.
use Rattle.std.proofs.Common.{◌≡◌, ℕ, ◌%◌, ◌^◌, List, length, ℤ, Some, None, Option, unwrap_or, sym, refl, ap, ◌∙◌, subst}
use Rattle.model.specs.Trellises.{Diagram, Lawful}
use Rattle.paths.specs.Paths.{Path, last_state, path_cost}
use Rattle.paths.specs.Cheapest.{ties, first_path, second}
use Rattle.paths.specs.Laws.{First, IsFirst}
use Rattle.survivors.specs.Traces.{StandsAt}
use Rattle.survivors.specs.declared.standing.Standing.{Standing}
use Rattle.survivors.proofs.Pushes.{arrives, admit}
use Rattle.survivors.proofs.Firsts.{ends_at}
use Rattle.records.proofs.FirstReports.{first_is, none_is, last_is}

-- where a path ends, what it costs, how many paths cost as little as the cheapest, and the least cost of the others; nothing where there is no path
abbrev pub standing_of : Diagram → (ℤ → ℤ → ℕ) → Option ℕ → Option ℕ → List ℤ → Option Path → Option Standing
standing_of d cost start end xs None = None
standing_of d cost start end xs (Some p) = Some (record { last = unwrap_or (last_state d p) 0; cost = path_cost d cost xs p; ties = ties d cost start end xs % 2 ^ 64; second = second d cost start end xs p })

same_standing : (a a' b b' c c' : ℕ) (e e' : Option ℕ) → a ≡ a' → b ≡ b' → c ≡ c' → e ≡ e' →
    ◌≡◌ {A = Standing} (record { last = a; cost = b; ties = c; second = e }) (record { last = a'; cost = b'; ties = c'; second = e' })
same_standing a a' b b' c c' e e' p q r s = cc

module _ (d : Diagram) (lawful : Lawful d) (cost : ℤ → ℤ → ℕ) (start end : Option ℕ) (xs : List ℤ) where
  -- a first path is first to its own last state
  first_to : (p : Path) → First d cost start end xs p → First d cost start (Some (unwrap_or (last_state d p) 0)) xs p
  first_to p f =
      let e = ends_at d start end (length xs) p f.path in
      let last : e.0 ≡ unwrap_or (last_state d p) 0 = sym (ap (λ o. unwrap_or o 0) e.3) in
      let to : First d cost start (Some e.0) xs p = record {
        path = e.1;
        ahead = λ q h ne. let a = arrives d start (length xs) e.0 q h in f.ahead q (admit d start end (length xs) e.0 q h.path.state h.path.steps a.0 a.1 e.2) ne;
      } in
      subst (λ t. First d cost start (Some t) xs p) last to

  -- for what is first there is a standing that is right
  pub stands_from : (o : Option Path) → IsFirst d cost start end xs o → StandsAt d cost start end xs (standing_of d cost start end xs o)
  stands_from None n = n
  stands_from (Some p) f = (p, f, first_to p f, refl, refl, refl)

  -- and no other is
  pub standing_is : (o : Option Standing) → StandsAt d cost start end xs o → o ≡ standing_of d cost start end xs (first_path d cost start end xs)
  standing_is None n = sym (ap (standing_of d cost start end xs) (none_is d lawful cost start end xs n))
  standing_is (Some e) s =
      let p = s.0 in
      let last : e.last ≡ unwrap_or (last_state d p) 0 = sym (ap (λ o. unwrap_or o 0) (last_is d start (length xs) e.last p s.2.path)) in
      ap Some (same_standing e.last _ e.cost _ e.ties _ e.second _ last (sym s.3) s.4 s.5) ∙ sym (ap (standing_of d cost start end xs) (first_is d lawful cost start end xs p s.1))
