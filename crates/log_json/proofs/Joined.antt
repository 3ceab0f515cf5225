-- Texts joined one after another, and as the members of an object.
use Rattle.std.proofs.Common.{◌≡◌, ◌++◌, ℕ, List, [], append_assoc, append-nil}

pub plain_parts : (k c q g z kind file line : List ℕ)
    → k ++ kind ++ [] ++ c ++ (q ++ file ++ g ++ line ++ z) ≡ k ++ ((kind ++ (c ++ (q ++ (file ++ (g ++ (line ++ [])))))) ++ z)
plain_parts k c q g z kind file line = simp (append_assoc, append-nil)

pub site_parts : (k s c q g z kind site file line : List ℕ)
    → k ++ kind ++ (s ++ site) ++ c ++ (q ++ file ++ g ++ line ++ z) ≡ k ++ ((kind ++ (s ++ (site ++ (c ++ (q ++ (file ++ (g ++ (line ++ [])))))))) ++ z)
site_parts k s c q g z kind site file line = simp (append_assoc, append-nil)

pub merged_parts : (b o n f s l z block offset count one other total : List ℕ)
    → (b ++ block ++ o ++ offset) ++ (n ++ count) ++ (f ++ one ++ s ++ other) ++ (l ++ total) ++ z
    ≡ b ++ ((block ++ (o ++ (offset ++ (n ++ (count ++ (f ++ (one ++ (s ++ (other ++ (l ++ (total ++ []))))))))))) ++ z)
merged_parts b o n f s l z block offset count one other total = simp (append_assoc, append-nil)

pub location_parts : (b o f s z block offset one other : List ℕ)
    → (b ++ block ++ o ++ offset) ++ (f ++ one ++ s ++ other) ++ z ≡ b ++ ((block ++ (o ++ (offset ++ (f ++ (one ++ (s ++ (other ++ []))))))) ++ z)
location_parts b o f s z block offset one other = simp (append_assoc, append-nil)

pub use_parts : (b u c d l z block line since other total : List ℕ)
    → (b ++ block ++ u) ++ line ++ (c ++ since ++ d ++ other) ++ (l ++ total) ++ z ≡ b ++ ((block ++ (u ++ (line ++ (c ++ (since ++ (d ++ (other ++ (l ++ (total ++ []))))))))) ++ z)
use_parts b u c d l z block line since other total = simp (append_assoc, append-nil)

pub counts_parts : (b r u s c z races reads uses stale left : List ℕ)
    → (b ++ races ++ r ++ reads ++ u ++ uses ++ s ++ stale) ++ (c ++ left) ++ z ≡ b ++ ((races ++ (r ++ (reads ++ (u ++ (uses ++ (s ++ (stale ++ (c ++ (left ++ []))))))))) ++ z)
counts_parts b r u s c z races reads uses stale left = simp (append_assoc, append-nil)

pub report_parts : (b e u s w p q n z y races reads uses stale work span quotient heaps counts left : List ℕ)
    → b ++ races ++ ((e ++ reads) ++ (u ++ uses) ++ (s ++ stale)) ++ (((w ++ work) ++ (p ++ span) ++ q ++ quotient) ++ heaps ++ n ++ (counts ++ left) ++ z) ++ (z ++ y)
    ≡ b ++ ((races ++ (e ++ (reads ++ (u ++ (uses ++ (s ++ (stale ++ (w ++ (work ++ (p ++ (span ++ (q ++ (quotient ++ (heaps ++ (n ++ ((counts ++ left ++ z) ++ [])))))))))))))))) ++ z) ++ y
report_parts b e u s w p q n z y races reads uses stale work span quotient heaps counts left = simp (append_assoc, append-nil)

pub depth_parts : (d b w o z depth blocks words own : List ℕ)
    → (d ++ depth) ++ (b ++ blocks) ++ (w ++ words) ++ (o ++ own) ++ z ≡ d ++ ((depth ++ (b ++ (blocks ++ (w ++ (words ++ (o ++ (own ++ []))))))) ++ z)
depth_parts d b w o z depth blocks words own = simp (append_assoc, append-nil)

pub heaps_parts : (h d s o z depths stores down rest : List ℕ)
    → ((h ++ d) ++ depths ++ (s ++ stores) ++ (o ++ down) ++ z) ++ rest ≡ h ++ ((d ++ ((depths ++ (s ++ (stores ++ (o ++ (down ++ []))))) ++ z)) ++ rest)
heaps_parts h d s o z depths stores down rest = simp (append_assoc, append-nil)
