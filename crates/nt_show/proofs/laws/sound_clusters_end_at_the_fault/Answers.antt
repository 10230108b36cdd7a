use Rattle.nt_show.proofs.SoundClusters.{sound_whole, no_outline_sound, fault_in_cluster}
use Rattle.nt_show.proofs.laws.sound_clusters_end_at_the_fault.Goals as goal

pub returns-clause-whole : goal.returns-clause-whole
returns-clause-whole c = sound_whole

pub returns-clause-outline : goal.returns-clause-outline
returns-clause-outline c = no_outline_sound

pub returns-clause-cluster : goal.returns-clause-cluster
returns-clause-cluster c = fault_in_cluster
