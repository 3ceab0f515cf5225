-- Addresses of names: which are equal, if one name's owner rests.
use Rattle.remote_access.proofs.Common.{◌≡◌, ◌==◌, true, Option, Some, None, refl, ap, sym, subst, ◌∙◌, eq-eqb, and_from, same_Some, Name, same_name, Ledger, same_from_is_name, Addr, same_address, same_reference, Located, is_same, same_is, Rests, own, Lies, Memory, object_name, ReadsReference, LiesWithOwner, MemoryStands, same_truth}

module _ (v : Memory) (l : Ledger) (W : MemoryStands v l) where
  -- the second name's owner rests
  module _ (n m : Name) (a b : Addr) (P : LiesWithOwner v l n a) (Q : LiesWithOwner v l m b) (rests : Rests l (own l m)) where
    name_is_there : Lies (v.belongings (own l m)).chunks m b
    name_is_there = Q.here rests

    -- an address belongs to one name
    one_name : a ≡ b → n ≡ m
    one_name e =
        let u : own l n ≡ own l m = same_Some (own l n) (own l m) (sym P.chunk ∙ (ap (λ (z : Addr). v.owner z.chunk) e ∙ Q.chunk)) in
        let x : Lies (v.belongings (own l m)).chunks n a = subst (λ z. Lies (v.belongings z).chunks n a) u (P.here (subst (Rests l) (sym u) rests)) in
        let same : x.0 ≡ name_is_there.0 = (W.belongings (own l m) rests).once x.0 name_is_there.0 x.1 name_is_there.1 (x.2.at ∙ (e ∙ sym name_is_there.2.at)) in
        sym x.2.name ∙ (ap object_name same ∙ name_is_there.2.name)

    -- a name has one address
    one_place : n ≡ m → a ≡ b
    one_place e =
        let x : Lies (v.belongings (own l m)).chunks m a = subst (λ z. Lies (v.belongings (own l z)).chunks z a) e (P.here (subst (λ z. Rests l (own l z)) (sym e) rests)) in
        let same : x.0 ≡ name_is_there.0 = (W.belongings (own l m) rests).named x.0 name_is_there.0 x.1 name_is_there.1 (x.2.name ∙ sym name_is_there.2.name) in
        sym x.2.at ∙ (ap (λ (z : Located). z.at) same ∙ name_is_there.2.at)

    is_name : n ≡ m → same_name (Some n) (Some m) ≡ true
    is_name e = and_from (n.task == m.task) (n.count == m.count) (eq-eqb n.task m.task (ap (λ (z : Name). z.task) e)) (eq-eqb n.count m.count (ap (λ (z : Name). z.count) e))

    same_some : same_address a b ≡ same_name (Some n) (Some m)
    same_some = same_truth (same_address a b) (same_name (Some n) (Some m)) (λ h. is_name (one_name (same_is a b h))) (λ h. is_same a b (one_place (same_from_is_name n m h)))

  -- so the tests of references and of names agree
  pub tests_same : (a b : Option Addr) (n m : Option Name) → ReadsReference (LiesWithOwner v l) a n → ReadsReference (LiesWithOwner v l) b m → ((z : Name) → m ≡ Some z → Rests l (own l z)) → same_reference a b ≡ same_name n m
  tests_same None None None None p q r = refl
  tests_same None (Some b) None (Some m) p q r = refl
  tests_same (Some a) None (Some n) None p q r = refl
  tests_same (Some a) (Some b) (Some n) (Some m) p q r = same_some n m a b p q (r m refl)
  tests_same None b (Some n) m p q r = absurd p
  tests_same (Some a) b None m p q r = absurd p
  tests_same None None None (Some m) p q r = absurd q
  tests_same None (Some b) None None p q r = absurd q
  tests_same (Some a) None (Some n) (Some m) p q r = absurd q
  tests_same (Some a) (Some b) (Some n) None p q r = absurd q
