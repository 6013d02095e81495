pub mod EntityLaws
