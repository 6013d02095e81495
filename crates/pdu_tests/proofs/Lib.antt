pub mod HeadRows
pub mod VectorRows
pub mod LargeVectorRows
